-- `trace_stream::byte::Heading::digits` meets its contract.
-- Assumes nothing.
use Rattle.basis.specs.Choice.{pick}
use Rattle.basis.proofs.Rules.{tests}
use Rattle.trace.specs.Step.{digits}
use Rattle.trace_stream.proofs.byte.Heading.digits.Goals as goal

pub returns-in-3 : goal.returns-in-3
unfolding digits pick
returns-in-3 c = rw (c.in-3.is, c.from.ensures)

pub returns-in-4 : goal.returns-in-4
unfolding digits pick
returns-in-4 c = rw (c.in-4.is, c.from-in-4.ensures)

pub returns-in-5 : goal.returns-in-5
unfolding digits pick
returns-in-5 c = rw c.in-5.is

pub returns-in_default : goal.returns-in_default
unfolding digits pick
returns-in_default c = search tests
