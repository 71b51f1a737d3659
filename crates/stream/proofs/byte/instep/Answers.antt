-- `stream::byte::instep` meets its contract.
-- Assumes nothing.
use Rattle.basis.specs.Choice.{◌and◌, ◌or◌}
use Rattle.scan.specs.Step.{instep}
use Rattle.basis.proofs.Rules.{tests}
use Rattle.stream.proofs.byte.instep.Goals as goal

pub returns-then-b-ne0 : goal.returns-then-b-ne0
unfolding instep ◌and◌ ◌or◌
returns-then-b-ne0 c = search tests

pub returns-then-s : goal.returns-then-s
unfolding instep ◌and◌ ◌or◌
returns-then-s c = search tests

pub returns : goal.returns
unfolding instep ◌and◌ ◌or◌
returns c = search (tests, c.shift.ensures)
