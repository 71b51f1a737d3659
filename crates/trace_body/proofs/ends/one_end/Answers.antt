-- `trace_body::one_end` meets its contract.
-- Assumes nothing.
use Rattle.trace_body.specs.Ends.{one_end}
use Rattle.basis.specs.Choice.{pick}
use Rattle.basis.proofs.Rules.{tests}
use Rattle.trace_body.proofs.ends.one_end.Goals as goal

pub returns-then-first : goal.returns-then-first
unfolding one_end pick
returns-then-first c = search (tests, c.if-first.true)

pub returns-else-first : goal.returns-else-first
unfolding one_end pick
returns-else-first c = search (tests, c.if-first.false)
