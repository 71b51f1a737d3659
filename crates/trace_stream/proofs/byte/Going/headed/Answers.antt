-- `trace_stream::byte::Going::headed` meets its contract.
-- Assumes nothing.
use mathlib.Core.Path.{sym, ◌∙◌}
use Rattle.trace.specs.Step.{headed}
use Rattle.basis.specs.Choice.{pick}
use Rattle.basis.proofs.Rules.{tests}
use Rattle.trace_stream.proofs.byte.Going.headed.Goals as goal

pub returns-then-sound : goal.returns-then-sound
unfolding headed pick
returns-then-sound c = search (tests, sym c.sound.ensures ∙ c.if-sound.true, c.quiet.ensures)

pub returns-else-sound : goal.returns-else-sound
unfolding headed pick
returns-else-sound c = search (tests, sym c.sound.ensures ∙ c.if-sound.false, c.halt.ensures)
