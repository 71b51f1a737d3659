-- `stream::feed::answered` meets its contract.
-- Assumes nothing.
use Rattle.basis.specs.Choice.{pick}
use Rattle.basis.proofs.Rules.{tests}
use Rattle.stream.specs.Calls.{answered}
use Rattle.stream.proofs.feed.answered.Goals as goal

pub returns-then-s-eq0 : goal.returns-then-s-eq0
unfolding answered pick
returns-then-s-eq0 c = search (tests, c.if-s-eq0.true)

pub returns : goal.returns
unfolding answered pick
returns c = search (tests, c.if-s-eq0.false, c.stop_refusal.ensures)
