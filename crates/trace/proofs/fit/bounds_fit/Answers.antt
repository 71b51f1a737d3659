-- `trace::bounds_fit` meets its contract.
-- Assumes nothing.
use Rattle.basis.specs.Choice.{◌and◌}
use Rattle.basis.proofs.Rules.{tests}
use Rattle.trace.specs.Fit.{boundsb}
use Rattle.trace.proofs.fit.bounds_fit.Goals as goal

pub returns-then-s : goal.returns-then-s
unfolding boundsb ◌and◌
returns-then-s c = search (tests, c.rest_fits.ensures)

pub returns-else-s : goal.returns-else-s
unfolding boundsb ◌and◌
returns-else-s c = search (tests, c.if-s.false)
