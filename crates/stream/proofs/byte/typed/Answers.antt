-- `stream::byte::typed` meets its contract.
-- Assumes nothing.
use Rattle.basis.specs.Fields.{field}
use Rattle.scan.specs.Step.{typed, seen}
use Rattle.basis.specs.Choice.{pick}
use Rattle.basis.proofs.Rules.{tests}
use Rattle.stream.proofs.byte.typed.Goals as goal

pub returns-then-k-eq0 : goal.returns-then-k-eq0
unfolding typed seen pick field
returns-then-k-eq0 c = search tests

pub returns-then-n-k : goal.returns-then-n-k
unfolding typed seen pick field
returns-then-n-k c = search tests

pub returns : goal.returns
unfolding typed seen pick field
returns c = search tests
