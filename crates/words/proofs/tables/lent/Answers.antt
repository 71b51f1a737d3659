-- `words::tables::lent` meets its contract: each table's rule is one test, which the checker computes.
-- Assumes nothing.
use Rattle.std.proofs.Common.{refl}
use borrow.Author.Tests.{eq-eqb, ne_eqb}
use Rattle.basis.specs.Choice.{pick}
use Rattle.basis.specs.Fields.{field}
use Rattle.basis.specs.Upto.{upto}
use Rattle.codes.specs.Codes.{table, find_in, row_of}
use Rattle.words.specs.Words.{signed_fraction, power_of, last_bit, negative_zero, all_ones, off_rule, sample_in, word_in, word_of, value_of}
use Rattle.words.specs.Tables.{byte_code, entry_of, table_of}
use Rattle.words.proofs.tables.lent.Goals as goal

pub returns-then-code-eq34 : goal.returns-then-code-eq34
unfolding row_of find_in table pick field upto signed_fraction power_of last_bit negative_zero all_ones off_rule sample_in word_in word_of value_of byte_code entry_of table_of
returns-then-code-eq34 c = rw (eq-eqb c.args.code 0x0022 c.if-code-eq34.true) refl

pub returns-else-code-eq34 : goal.returns-else-code-eq34
unfolding row_of find_in table pick field upto signed_fraction power_of last_bit negative_zero all_ones off_rule sample_in word_in word_of value_of byte_code entry_of table_of
returns-else-code-eq34 c = rw (ne_eqb c.args.code 0x0022 c.if-code-eq34.false) refl
