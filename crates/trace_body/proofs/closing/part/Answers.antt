-- `trace_body::part` meets its contract.
-- Assumes nothing.
use borrow.Author.Tests.{lt-ltb, le-ltb}
use Rattle.basis.specs.Choice.{pick}
use Rattle.trace_body.specs.Calls.{partb}
use Rattle.trace_body.proofs.closing.part.Goals as goal

pub returns-then-n-lt20 : goal.returns-then-n-lt20
unfolding partb pick
returns-then-n-lt20 c = rw (lt-ltb _ _ c.if-n-lt20.true)

pub returns : goal.returns
unfolding partb pick
returns c = rw (le-ltb _ _ c.if-n-lt20.false)
