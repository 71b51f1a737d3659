-- `body::begin::unfit` meets its contract.
-- Assumes nothing.
use borrow.Author.Rules.{rules}
use Rattle.body.specs.Open.{unfit, fresh}
use Rattle.body.proofs.begin.unfit.Goals as goal

pub returns : goal.returns
unfolding unfit fresh
returns c = search rules
