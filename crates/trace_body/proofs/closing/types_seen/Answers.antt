-- `trace_body::types_seen` meets its contract.
-- Assumes nothing.
use borrow.Author.Tests.{eq-eqb, ne_eqb}
use Rattle.basis.specs.Choice.{pick}
use Rattle.trace_body.specs.Calls.{types_seen}
use Rattle.trace_body.proofs.closing.types_seen.Goals as goal

pub returns-then-n-eq0 : goal.returns-then-n-eq0
unfolding types_seen pick
returns-then-n-eq0 c = rw (eq-eqb _ _ c.if-n-eq0.true)

pub returns : goal.returns
unfolding types_seen pick
returns c = rw (ne_eqb _ _ c.if-n-eq0.false, c.from.ensures, c.turn_at.ensures.0)
