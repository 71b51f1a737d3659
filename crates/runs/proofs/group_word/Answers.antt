-- `runs::group_word` meets its contract.
-- Assumes nothing.
use Rattle.runs.specs.Words.{group_word}
use Rattle.runs.proofs.group_word.Goals as goal

pub returns : goal.returns
unfolding group_word
returns c = c.big2.ensures
