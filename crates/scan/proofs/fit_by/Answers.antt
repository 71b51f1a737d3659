-- `scan::fit_by` meets its contract: its four tests are the definition's.
-- Assumes nothing.
use Rattle.scan.specs.Fit.{fit_by}
use Rattle.scan.proofs.fit_by.Goals as goal

pub returns : goal.returns
unfolding fit_by
returns c = cc
