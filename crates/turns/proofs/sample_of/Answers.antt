-- `turns::sample_of` meets its contract.
-- Assumes nothing.
use Rattle.turns.specs.Places.{sample_of}
use Rattle.turns.proofs.sample_of.Goals as goal

pub returns : goal.returns
unfolding sample_of
returns c = rw (c.from.ensures, c.from-2.ensures, c.from-n.ensures, ← c.turn_at-u.ensures.0, ← c.subscans_at.ensures.0)
