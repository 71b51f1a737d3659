-- `stream::byte::phased` meets its contract.
-- Assumes nothing.
use Rattle.basis.specs.Fields.{field}
use Rattle.scan.specs.Step.{phased}
use Rattle.basis.specs.Choice.{pick}
use Rattle.basis.proofs.Rules.{tests}
use Rattle.stream.proofs.byte.phased.Goals as goal

pub returns-then-k-eq0 : goal.returns-then-k-eq0
unfolding phased pick field
returns-then-k-eq0 c = search tests

pub returns : goal.returns
unfolding phased pick field
returns c = search (tests, c.typed-t.ensures)
