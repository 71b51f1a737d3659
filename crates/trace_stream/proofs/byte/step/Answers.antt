-- `trace_stream::byte::step` meets its contract.
-- Assumes nothing.
use borrow.Author.Tests.{eq-eqb, ne_eqb, lt-ltb, le-ltb}
use Rattle.scan.specs.Step as Scan
use Rattle.trace.specs.Step.{still, step}
use Rattle.basis.specs.Choice.{pick}
use Rattle.basis.proofs.Rules.{tests}
use Rattle.trace_stream.proofs.byte.step.Goals as goal

pub returns-then-s-ne0 : goal.returns-then-s-ne0
unfolding step still Scan.still pick
returns-then-s-ne0 c = search (tests, c.if-s-ne0.true, c.still.ensures)

pub returns-then-s-eq4294967295 : goal.returns-then-s-eq4294967295
unfolding step pick
returns-then-s-eq4294967295 c = search (tests, c.if-s-eq4294967295.true, c.if-s-ne0.false, c.halt.ensures)

pub returns-then-k : goal.returns-then-k
unfolding step pick
returns-then-k c = rw (eq-eqb _ _ c.if-s-ne0.false, ne_eqb _ _ c.if-s-eq4294967295.false, c.if-k.true) c.halt-then-k.ensures

pub returns-then-s-lt20 : goal.returns-then-s-lt20
unfolding step pick
returns-then-s-lt20 c = rw (eq-eqb _ _ c.if-s-ne0.false, ne_eqb _ _ c.if-s-eq4294967295.false, c.if-k.false, lt-ltb _ _ c.if-s-lt20.true) c.headed.ensures

pub returns : goal.returns
unfolding step pick
returns c = rw (eq-eqb _ _ c.if-s-ne0.false, ne_eqb _ _ c.if-s-eq4294967295.false, c.if-k.false, le-ltb _ _ c.if-s-lt20.false) c.word.ensures
