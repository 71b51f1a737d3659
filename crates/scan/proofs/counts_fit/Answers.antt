-- `scan::counts_fit` meets its contract: its tests are the definition's.
-- Assumes nothing.
use Rattle.scan.specs.Fit.{countsb}
use Rattle.basis.proofs.Rules.{tests}
use Rattle.scan.proofs.counts_fit.Goals as goal

pub returns : goal.returns
unfolding countsb
returns c = search tests
