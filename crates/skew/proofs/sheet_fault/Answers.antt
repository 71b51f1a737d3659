-- `skew::sheet_fault` meets its contract.
-- Assumes nothing.
use Rattle.layout.proofs.Facts.{refuses}
use Rattle.skew.specs.Skews.{sheet_holds}
use Rattle.skew.proofs.sheet_fault.Goals as goal

pub returns : goal.returns
unfolding sheet_holds
returns c =
    rw (c.ok_or.ensures.value, c.then_some.ensures, c.from-scan_types.ensures, ← c.pair_at.ensures.0, ← c.samples-n.ensures.0, ← c.pair_at-2.ensures.0)
    (refuses _ _)
