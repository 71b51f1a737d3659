-- `trace_stream::byte::Heading::skewed` meets its contract.
-- Assumes nothing.
use borrow.Author.Tests.{eq-eqb, ne_eqb}
use Rattle.basis.specs.Choice.{◌or◌}
use Rattle.trace.specs.Step.{skewb}
use Rattle.trace_stream.proofs.byte.Heading.skewed.Goals as goal

pub returns-then-pair_at-eq0 : goal.returns-then-pair_at-eq0
unfolding skewb ◌or◌
returns-then-pair_at-eq0 c = rw (← c.pair_at.ensures.0, eq-eqb _ _ c.if-pair_at-eq0.true)

pub returns-else-pair_at-eq0 : goal.returns-else-pair_at-eq0
unfolding skewb ◌or◌
returns-else-pair_at-eq0 c = rw (← c.pair_at.ensures.0, ne_eqb _ _ c.if-pair_at-eq0.false, c.skew_at.ensures)
