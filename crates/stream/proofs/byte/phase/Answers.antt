-- `stream::byte::phase` meets its contract.
-- Assumes nothing.
use Rattle.std.proofs.Common.{sym, ◌∙◌}
use Rattle.scan.specs.Step.{phase}
use Rattle.basis.specs.Choice.{pick}
use Rattle.basis.proofs.Rules.{tests}
use Rattle.stream.proofs.byte.phase.Goals as goal

pub returns-then-b-ne1 : goal.returns-then-b-ne1
unfolding phase pick
returns-then-b-ne1 c = search (tests, c.halt.ensures)

pub returns-then-phased : goal.returns-then-phased
unfolding phase pick
returns-then-phased c = search (tests, sym c.phased.ensures ∙ c.if-phased.true, c.still.ensures, c.moved.ensures, c.typed.ensures)

pub returns-else-phased : goal.returns-else-phased
unfolding phase pick
returns-else-phased c = search (tests, sym c.phased.ensures ∙ c.if-phased.false, c.halt-else-phased.ensures)
