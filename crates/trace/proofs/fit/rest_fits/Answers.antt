-- `trace::rest_fits` meets its contract.
-- Assumes nothing.
use mathlib.Core.Path.{refl}
use Rattle.trace.specs.Fit.{restb}
use Rattle.trace.proofs.fit.rest_fits.Goals as goal

pub returns : goal.returns
unfolding restb
returns c = refl
