-- `stream::byte::halt` meets its contract.
-- Assumes nothing.
use Rattle.scan.specs.Step.{halt, halted}
use Rattle.basis.proofs.Rules.{tests}
use Rattle.stream.proofs.byte.halt.Goals as goal

pub returns : goal.returns
unfolding halt halted
returns c = search tests
