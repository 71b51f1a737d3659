-- `deck::places::segd_skew` meets its contract.
-- Assumes nothing.
use Rattle.skew.proofs.Fits.{skew_asked}
use native.Mathlib.Omega.{arith}
use mathlib.Core.Path.{sym}
use Rattle.deck.proofs.places.segd_skew.Goals as goal

pub overflow_sub-t : goal.overflow_sub-t
overflow_sub-t c = omega (arith, (skew_asked _ _ _ (sym c.in-Ok.ensures)).least)

pub overflow_cast-t : goal.overflow_cast-t
overflow_cast-t c = omega (arith, (skew_asked _ _ _ (sym c.in-Ok.ensures)).small)
