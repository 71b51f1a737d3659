-- `body::begin::shape_of` meets its contract.
-- Assumes nothing.
use Rattle.body.specs.Open.{shape_of}
use Rattle.body.proofs.begin.shape_of.Goals as goal

pub returns : goal.returns
unfolding shape_of
returns c = rw (c.from.ensures, c.from-2.ensures, c.scans_of.ensures)
