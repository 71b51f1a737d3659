-- `words::two_to` meets its contract.
-- Assumes nothing.
use Rattle.basis.proofs.Numbers.{shifted}
use Rattle.words.proofs.two_to.Goals as goal

pub returns : goal.returns
returns c = shifted c.args.n 32 c.requires
