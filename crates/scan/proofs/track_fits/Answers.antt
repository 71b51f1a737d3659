-- `scan::track_fits` meets its contract: its tests are the definition's.
-- Assumes nothing.
use Rattle.scan.specs.Fit.{trackb}
use Rattle.basis.proofs.Rules.{tests}
use Rattle.scan.proofs.track_fits.Goals as goal

pub returns : goal.returns
unfolding trackb
returns c = search tests
