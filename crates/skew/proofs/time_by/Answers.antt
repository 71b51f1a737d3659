-- `skew::time_by` meets its contract.
-- Assumes nothing.
use Rattle.skew.specs.Times.{time_by}
use Rattle.skew.proofs.time_by.Goals as goal

pub returns : goal.returns
unfolding time_by
returns c = rw (c.from.ensures, c.from-2.ensures)
