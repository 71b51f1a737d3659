-- `words::negative_zero` meets its contract.
-- Assumes nothing.
use Rattle.words.specs.Words.{negative_zero}
use Rattle.words.proofs.Joins.{both_ones}
use Rattle.words.proofs.negative_zero.Goals as goal

pub returns : goal.returns
unfolding negative_zero
returns c = rw c.two_to.ensures (both_ones _ _ _ c.requires.1 c.requires.2 (λ e. e) (λ e. e))
