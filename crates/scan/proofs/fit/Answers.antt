-- `scan::fit` meets its contract: the groups are the code's.
-- Assumes nothing.
use Rattle.scan.specs.Fit.{fitb}
use Rattle.scan.proofs.fit.Goals as goal

pub returns : goal.returns
unfolding fitb
returns c = cc
