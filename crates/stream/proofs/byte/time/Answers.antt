-- `stream::byte::time` meets its contract.
-- Assumes nothing.
use Rattle.std.proofs.Common.{sym, ◌∙◌}
use Rattle.scan.specs.Step.{time}
use Rattle.basis.specs.Choice.{pick}
use Rattle.basis.proofs.Rules.{tests}
use Rattle.stream.proofs.byte.time.Goals as goal

pub returns-then-instep : goal.returns-then-instep
unfolding time pick
returns-then-instep c = search (tests, sym c.instep.ensures ∙ c.if-instep.true, c.still.ensures, c.moved.ensures, c.timed.ensures)

pub returns-else-instep : goal.returns-else-instep
unfolding time pick
returns-else-instep c = search (tests, sym c.instep.ensures ∙ c.if-instep.false, c.halt.ensures)
