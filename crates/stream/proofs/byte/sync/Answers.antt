-- `stream::byte::sync` meets its contract.
-- Assumes nothing.
use Rattle.scan.specs.Step.{sync}
use Rattle.basis.specs.Choice.{pick}
use Rattle.basis.proofs.Rules.{tests}
use Rattle.stream.proofs.byte.sync.Goals as goal

pub returns-then-b-eq255 : goal.returns-then-b-eq255
unfolding sync pick
returns-then-b-eq255 c = search (tests, c.quiet.ensures)

pub returns-else-b-eq255 : goal.returns-else-b-eq255
unfolding sync pick
returns-else-b-eq255 c = search (tests, c.halt.ensures)
