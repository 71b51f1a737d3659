-- `stream::byte::full` meets its contract.
-- Assumes nothing.
use Rattle.scan.specs.Step.{full}
use Rattle.basis.specs.Choice.{pick}
use Rattle.basis.proofs.Rules.{tests}
use Rattle.stream.proofs.byte.full.Goals as goal

pub returns-then-h-eq0 : goal.returns-then-h-eq0
unfolding full pick
returns-then-h-eq0 c = search tests

pub returns : goal.returns
unfolding full pick
returns c = search tests
