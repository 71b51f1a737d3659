-- `stream::byte::sample` meets its contract.
-- Assumes nothing.
use Rattle.std.proofs.Common.{◌≡◌, Bool, true, false, refl}
use mir.Val.{bool_byte}
use Rattle.basis.specs.Choice.{pick}
use Rattle.words.specs.Words.{off_one}
use Rattle.scan.specs.Step.{sample}
use Rattle.stream.proofs.byte.sample.Goals as goal

counted : (t : Bool) → bool_byte t ≡ pick t 1 0
unfolding pick
counted true = refl
counted false = refl

pub returns : goal.returns
unfolding sample off_one
returns c = rw (c.moved.ensures, c.from.ensures, counted c.args.w.off)
