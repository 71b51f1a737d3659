-- `stream::byte::quiet` meets its contract.
-- Assumes nothing.
use Rattle.scan.specs.Step.{quiet}
use Rattle.basis.proofs.Rules.{tests}
use Rattle.stream.proofs.byte.quiet.Goals as goal

pub returns : goal.returns
unfolding quiet
returns c = search (tests, c.still.ensures, c.moved.ensures)
