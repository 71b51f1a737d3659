-- `trace::fits` meets its contract.
-- Assumes nothing.
use Rattle.trace.specs.Fit.{fit_by}
use Rattle.trace.proofs.fits.Goals as goal

pub returns : goal.returns
unfolding fit_by
returns c = cc
