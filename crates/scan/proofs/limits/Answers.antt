-- `scan::limits` meets its contract: its tests are the definition's.
-- Assumes nothing.
use Rattle.scan.specs.Fit.{limitsb}
use Rattle.basis.proofs.Rules.{tests}
use Rattle.scan.proofs.limits.Goals as goal

pub returns : goal.returns
unfolding limitsb
returns c = search tests
