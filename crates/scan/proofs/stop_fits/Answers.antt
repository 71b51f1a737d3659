-- `scan::stop_fits` meets its contract: its tests are the definition's.
-- Assumes nothing.
use borrow.Author.Rules.{rules}
use Rattle.basis.specs.Choice.{◌and◌, ◌or◌}
use Rattle.scan.specs.Fit.{stopb}
use Rattle.scan.proofs.stop_fits.Goals as goal

pub returns : goal.returns
unfolding stopb ◌and◌ ◌or◌
returns c = search rules
