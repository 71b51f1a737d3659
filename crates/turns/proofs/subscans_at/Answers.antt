-- `turns::subscans_at` meets its contract.
-- Assumes nothing.
use lib.Pow.{pow_pos}
use Rattle.turns.specs.Turns.{subscans_at}
use Rattle.turns.proofs.subscans_at.Goals as goal

pub returns : goal.returns
unfolding subscans_at
returns c = (c.subscans.ensures, rw c.subscans.ensures (pow_pos _))
