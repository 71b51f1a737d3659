-- `skew::lent` meets its contract.
-- Assumes nothing.
use borrow.Author.Tests.{eq-eqb, ne_eqb}
use Rattle.basis.specs.Choice.{pick}
use Rattle.skew.specs.Skews.{source}
use Rattle.skew.proofs.lent.Goals as goal

pub returns-then-pair_at-eq0 : goal.returns-then-pair_at-eq0
unfolding source pick
returns-then-pair_at-eq0 c = rw (← c.pair_at.ensures.0, eq-eqb _ _ c.if-pair_at-eq0.true)

pub returns-else-pair_at-eq0 : goal.returns-else-pair_at-eq0
unfolding source pick
returns-else-pair_at-eq0 c = rw (← c.pair_at.ensures.0, ne_eqb _ _ c.if-pair_at-eq0.false)
