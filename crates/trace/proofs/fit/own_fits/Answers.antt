-- `trace::own_fits` meets its contract.
-- Assumes nothing.
use Rattle.trace.specs.Fit.{own_by}
use Rattle.trace.proofs.fit.own_fits.Goals as goal

pub returns : goal.returns
unfolding own_by
returns c = cc
