-- `trace::stop_of` meets its contract.
-- Assumes nothing.
use borrow.Author.Tests.{eq-eqb, ne_eqb}
use Rattle.basis.specs.Choice.{pick}
use Rattle.trace.specs.Answers.{stop_of}
use Rattle.trace.proofs.stop_of.Goals as goal

pub returns-then-s-eq8 : goal.returns-then-s-eq8
unfolding stop_of pick
returns-then-s-eq8 c = rw (eq-eqb _ _ c.if-s-eq8.true, c.turn_at-u.ensures.0)

pub returns : goal.returns
unfolding stop_of pick
returns c = rw (ne_eqb _ _ c.if-s-eq8.false) c.stop_refusal.ensures
