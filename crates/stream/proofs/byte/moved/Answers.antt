-- `stream::byte::moved` meets its contract.
-- Assumes nothing.
use Rattle.scan.specs.Step.{moved, moved_by}
use Rattle.basis.proofs.Rules.{tests}
use Rattle.stream.proofs.byte.moved.Goals as goal

pub returns : goal.returns
unfolding moved moved_by
returns c = search (tests, c.shift.ensures)
