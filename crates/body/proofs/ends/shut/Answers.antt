-- `body::ends::shut` meets its contract.
-- Assumes nothing.
use Rattle.body.specs.Ends.{shut}
use Rattle.basis.specs.Choice.{pick, ◌and◌, ◌or◌}
use Rattle.basis.proofs.Rules.{tests}
use Rattle.body.proofs.ends.shut.Goals as goal

pub returns-then-scans-eq0 : goal.returns-then-scans-eq0
unfolding shut pick ◌and◌ ◌or◌
returns-then-scans-eq0 c = search (tests, c.if-scans-eq0.true)

pub returns-then-block-eq0 : goal.returns-then-block-eq0
unfolding shut pick ◌and◌ ◌or◌
returns-then-block-eq0 c = search (tests, c.if-block-eq0.true, c.if-scans-eq0.false)

pub returns : goal.returns
unfolding shut pick ◌and◌ ◌or◌
returns c = search (tests, c.if-block-eq0.false, c.if-scans-eq0.false)
