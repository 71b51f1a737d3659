-- `turns::turn_in` meets its contract.
-- Assumes nothing.
use mathlib.Core.Path.{refl}
use Rattle.turns.specs.Turns.{turn_in}
use native.Mathlib.Omega.{arith}
use Rattle.turns.proofs.turn_in.Goals as goal

pub returns : goal.returns
unfolding turn_in
returns c = (rw c.set_in-s.ensures.0, omega arith, refl, omega arith)
