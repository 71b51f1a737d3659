-- `trace::answered` meets its contract.
-- Assumes nothing.
use borrow.Author.Tests.{eq-eqb, ne_eqb}
use Rattle.basis.specs.Choice.{pick}
use Rattle.trace.specs.Answers.{answered}
use Rattle.trace.proofs.answered.Goals as goal

pub returns-then-s-eq0 : goal.returns-then-s-eq0
unfolding answered pick
returns-then-s-eq0 c = rw (eq-eqb _ _ c.if-s-eq0.true)

pub returns : goal.returns
unfolding answered pick
returns c = rw (ne_eqb _ _ c.if-s-eq0.false, c.stop_of.ensures)
