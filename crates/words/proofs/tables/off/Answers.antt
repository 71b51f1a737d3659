-- `words::tables::off` meets its contract.
-- Assumes nothing.
use Rattle.words.specs.Tables.{off_byte}
use Rattle.words.proofs.OffBytes.{mark}
use borrow.Author.Rules.{rules}
use Rattle.words.proofs.tables.off.Goals as goal

pub returns : goal.returns
unfolding off_byte
returns c = rw c.marks-ones.ensures (mark c.args.code c.args.b (search rules))
