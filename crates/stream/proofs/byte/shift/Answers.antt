-- `stream::byte::shift` meets its contract.
-- Assumes nothing.
use Rattle.scan.specs.Step.{shift}
use Rattle.basis.proofs.Rules.{tests}
use Rattle.stream.proofs.byte.shift.Goals as goal

pub returns : goal.returns
unfolding shift
returns c = search tests
