-- `trace_body::ends::End::uneven` meets its contract.
-- Assumes nothing.
use Rattle.trace_body.specs.Ends.{unevenb}
use Rattle.basis.specs.Choice.{◌and◌}
use Rattle.basis.proofs.Rules.{tests}
use Rattle.trace_body.proofs.ends.End.uneven.Goals as goal

pub returns-then-self-eq10 : goal.returns-then-self-eq10
unfolding unevenb ◌and◌
returns-then-self-eq10 c = search (tests, c.if-self-eq10.true, c.bytes.ensures)

pub returns-else-self-eq10 : goal.returns-else-self-eq10
unfolding unevenb ◌and◌
returns-else-self-eq10 c = search (tests, c.if-self-eq10.false)
