-- `stream::byte::start` meets its contract.
-- Assumes nothing.
use Rattle.std.proofs.Common.{sym, ◌∙◌}
use Rattle.scan.specs.Step.{start}
use Rattle.basis.specs.Choice.{pick}
use Rattle.basis.proofs.Rules.{tests}
use Rattle.stream.proofs.byte.start.Goals as goal

pub returns-then-full : goal.returns-then-full
unfolding start pick
returns-then-full c = search (tests, sym c.full.ensures ∙ c.if-full.true, c.halt.ensures)

pub returns-else-full : goal.returns-else-full
unfolding start pick
returns-else-full c = search (tests, sym c.full.ensures ∙ c.if-full.false, c.sync.ensures)
