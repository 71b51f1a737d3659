-- `trace::halted` meets its contract.
-- Assumes nothing.
use Rattle.basis.proofs.Rules.{tests}
use Rattle.trace.specs.Step.{halted}
use Rattle.trace.proofs.halted.Goals as goal

pub returns : goal.returns
unfolding halted
returns c = search tests
