-- `body::begin::fresh` meets its contract.
-- Assumes nothing.
use Rattle.body.specs.Open.{unfit, fresh}
use Rattle.body.proofs.begin.fresh.Goals as goal

pub returns : goal.returns
unfolding unfit fresh
returns c = rw c.unfit.ensures
