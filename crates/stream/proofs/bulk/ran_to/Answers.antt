-- `stream::bulk::ran_to` meets its contract.
-- Assumes nothing.
use Rattle.scan.specs.Step.{moved_by}
use Rattle.stream.specs.Bulk.{ran_to}
use Rattle.stream.proofs.bulk.ran_to.Goals as goal

pub returns : goal.returns
unfolding ran_to moved_by
returns c = rw (c.last_exponents.ensures, c.held_after.ensures)
