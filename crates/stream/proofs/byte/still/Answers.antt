-- `stream::byte::still` meets its contract.
-- Assumes nothing.
use Rattle.scan.specs.Step.{still}
use Rattle.basis.proofs.Rules.{tests}
use Rattle.stream.proofs.byte.still.Goals as goal

pub returns : goal.returns
unfolding still
returns g c = search tests
