-- `words::ones` meets its contract.
-- Assumes nothing.
use lib.Pow.{pow_pos}
use Rattle.words.proofs.ones.Goals as goal

pub overflow_sub-result : goal.overflow_sub-result
overflow_sub-result c = rw c.two_to.ensures (pow_pos c.args.n)
