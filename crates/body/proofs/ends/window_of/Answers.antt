-- `body::ends::window_of` meets its contract.
-- Assumes nothing.
use Rattle.std.specs.Bool.{then_some}
use lib.Dec.{eqb}
use mathlib.Core.Bool.{Bool, true, false, not}
use mathlib.Core.Path.{◌≡◌, refl}
use Rattle.std.specs.Prelude.{ℕ, None, Some}
use Rattle.basis.specs.Choice.{pick}
use Rattle.body.specs.Ends.{window_of}
use Rattle.body.proofs.ends.window_of.Goals as goal

picked : (t : Bool) (n : ℕ) → then_some (not t) n ≡ pick t None (Some n)
unfolding pick
picked true n = refl
picked false n = refl

pub returns : goal.returns
unfolding window_of
returns c = rw (c.then_some.ensures, picked (eqb c.args.k.twi 0))
