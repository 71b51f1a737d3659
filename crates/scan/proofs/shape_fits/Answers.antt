-- `scan::shape_fits` meets its contract: each return by the tests that led to it.
-- Assumes nothing.
use Rattle.scan.specs.Fit.{shape_by}
use Rattle.basis.specs.Choice.{◌and◌}
use Rattle.basis.proofs.Rules.{tests}
use Rattle.scan.proofs.shape_fits.Goals as goal

pub returns-then-h-lt8 : goal.returns-then-h-lt8
unfolding shape_by ◌and◌
returns-then-h-lt8 c = search (tests, c.if-h-lt8.true)

pub returns : goal.returns
unfolding shape_by ◌and◌
returns c = search (tests, c.if-h-lt8.false, c.whole.ensures, c.limits.ensures)
