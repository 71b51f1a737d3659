-- `trace_stream::byte::Going::sample` meets its contract.
-- Assumes nothing.
use mathlib.Core.Path.{◌≡◌, refl}
use mathlib.Core.Bool.{Bool, true, false}
use mir.Val.{bool_byte}
use Rattle.basis.specs.Choice.{pick}
use Rattle.words.specs.Words.{off_one}
use Rattle.trace.specs.Step.{sample}
use Rattle.trace_stream.proofs.byte.Going.sample.Goals as goal

counted : (t : Bool) → bool_byte t ≡ pick t 1 0
unfolding pick
counted true = refl
counted false = refl

pub returns : goal.returns
unfolding sample off_one
returns c = rw (c.moved.ensures, c.from.ensures, counted c.args.v.off)
