-- `stream::byte::timed` meets its contract.
-- Assumes nothing.
use Rattle.basis.specs.Fields.{field}
use Rattle.scan.specs.Step.{timed, opens}
use Rattle.basis.specs.Choice.{pick, ◌and◌}
use Rattle.basis.proofs.Rules.{tests}
use Rattle.stream.proofs.byte.timed.Goals as goal

pub returns-then-k-ne0 : goal.returns-then-k-ne0
unfolding timed opens pick ◌and◌ field
returns-then-k-ne0 c = search (tests, c.shift.ensures)

pub returns-then-held-eq1 : goal.returns-then-held-eq1
unfolding timed opens pick ◌and◌ field
returns-then-held-eq1 c = search (tests, c.shift.ensures)

pub returns : goal.returns
unfolding timed opens pick ◌and◌ field
returns c = search (tests, c.shift.ensures)
