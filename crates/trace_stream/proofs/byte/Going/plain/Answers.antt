-- `trace_stream::byte::Going::plain` meets its contract.
-- Assumes nothing.
use Rattle.trace.specs.Step.{plain}
use Rattle.basis.specs.Choice.{pick}
use Rattle.basis.proofs.Rules.{tests}
use Rattle.trace_stream.proofs.byte.Going.plain.Goals as goal

pub returns-then-q-w-eq0 : goal.returns-then-q-w-eq0
unfolding plain pick
returns-then-q-w-eq0 c = search (tests, c.if-q-w-eq0.true, c.sample.ensures, c.read.ensures, c.low.ensures, c.shift-held.ensures)

pub returns : goal.returns
unfolding plain pick
returns c = search (tests, c.if-q-w-eq0.false, c.quiet.ensures)
