-- `trace_stream::byte::Going::grouped` meets its contract.
-- Assumes nothing.
use borrow.Author.Tests.{eq-eqb, ne_eqb}
use Rattle.scan.specs.Step as Scan
use Rattle.trace.specs.Step.{still, grouped}
use Rattle.basis.specs.Choice.{pick}
use Rattle.basis.proofs.Rules.{tests}
use Rattle.trace_stream.proofs.byte.Going.grouped.Goals as goal

pub returns-then-g-eq0 : goal.returns-then-g-eq0
unfolding grouped pick
returns-then-g-eq0 c = search (tests, c.if-g-eq0.true, c.quiet.ensures)

pub returns-then-g-eq1 : goal.returns-then-g-eq1
unfolding grouped still Scan.still pick
returns-then-g-eq1 c = rw (c.still.ensures, c.moved.ensures, c.low-two.ensures, c.shift.ensures, ne_eqb _ _ c.if-g-eq0.false, eq-eqb _ _ c.if-g-eq1.true)

pub returns : goal.returns
unfolding grouped pick
returns c = rw (c.sample.ensures, c.read.ensures, c.nibble.ensures, c.low-two.ensures, c.shift.ensures, ne_eqb _ _ c.if-g-eq0.false, ne_eqb _ _ c.if-g-eq1.false)
