-- A word of 0044: its row is that of its code.
-- Assumes nothing.
use Rattle.std.proofs.Common.{rules, refl, ap}
use Rattle.basis.specs.Choice.{pick}
use Rattle.codes.specs.Codes.{row_of, find_in, table}
use Rattle.words.specs.Words.{value_of}
use Rattle.words.proofs.Tape.{two}
use Rattle.words.proofs.Code44Plain2.value.Goals as goal

pub by_row-requires : goal.by_row-requires
unfolding row_of find_in table pick
by_row-requires c = (refl, search rules)

pub returns : goal.returns
returns c = rw (c.by_row.ensures, c.from.ensures, c.from_be_bytes.ensures) (ap (value_of 0x0044 0) (two c.args.word))
