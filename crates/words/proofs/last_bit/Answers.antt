-- `words::last_bit` meets its contract.
-- Assumes nothing.
use Rattle.words.specs.Words.{last_bit}
use mathlib.Core.Path.{refl}
use Rattle.words.proofs.last_bit.Goals as goal

pub returns : goal.returns
unfolding last_bit
returns c = refl
