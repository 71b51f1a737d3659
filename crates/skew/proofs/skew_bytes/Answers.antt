-- `skew::skew_bytes` meets its contract.
-- Assumes nothing.
use native.Mathlib.Nat.{add-sub_cancel_left}
use Rattle.parts.specs.Slices.{part}
use Rattle.skew.specs.Skews.{skew_of}
use Rattle.skew.proofs.Fits.{lent_bytes}
use Rattle.skew.proofs.skew_bytes.Goals as goal

pub slice_bounds-result-end : goal.slice_bounds-result-end
slice_bounds-result-end c = rw (lent_bytes _ _ _ _ _ _ c.lent-from.ensures, c.skew_place-start.ensures.0, c.samples-n.ensures.0) c.requires

pub returns : goal.returns
unfolding skew_of part
returns c = rw (← c.lent-from.ensures, ← c.skew_place-start.ensures.0, ← c.samples-n.ensures.0, add-sub_cancel_left)
