-- `turns::turn_at` meets its contract.
-- Assumes nothing.
use Rattle.turns.specs.Turns.{turn_at}
use native.Mathlib.Omega.{arith}
use Rattle.turns.proofs.turn_at.Goals as goal

pub returns : goal.returns
unfolding turn_at
returns c = (rw (← c.type_at-t.ensures.0) c.turn_in.ensures.0, omega (arith, c.turn_in.ensures.1), omega (arith, c.turn_in.ensures.2), omega (arith, c.turn_in.ensures.3))
