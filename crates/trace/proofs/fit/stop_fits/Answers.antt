-- `trace::stop_fits` meets its contract.
-- Assumes nothing.
use borrow.Author.Rules.{rules}
use Rattle.basis.specs.Choice.{◌or◌}
use Rattle.trace.specs.Fit.{stopb}
use Rattle.trace.proofs.fit.stop_fits.Goals as goal

pub returns : goal.returns
unfolding stopb ◌or◌
returns c = search rules
