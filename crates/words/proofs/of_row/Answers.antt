-- `words::of_row` meets its contract.
-- Assumes nothing.
use Rattle.std.specs.Prelude.{Ok}
use mathlib.Core.Path.{sym, ◌∙◌, ap}
use Rattle.basis.specs.Choice.{pick}
use borrow.Author.Tests.{ltb-true}
use Rattle.words.specs.Words.{word_in}
use Rattle.words.proofs.of_row.Goals.{else-has_bits-via-then-has_bits+else-has_bits-2, else-has_bits-via-else-has_bits}
use Rattle.words.proofs.of_row.Goals as goal

pub sample-requires : goal.sample-requires
sample-requires c =
    record { sound = c.requires; c_bits = ltb-true _ _ (sym c.if-has_bits.ensures); word_bits = ltb-true _ _ (sym c.if-has_bits-2.ensures) }

pub returns-then-has_bits-2 : goal.returns-then-has_bits-2
unfolding word_in pick
returns-then-has_bits-2 c = simp (sym c.if-has_bits.ensures, sym c.if-has_bits-2.ensures) (ap Ok c.sample.ensures)

pub returns : goal.returns
unfolding word_in pick
returns c = elim c.else-has_bits.branch [
  | else-has_bits-via-then-has_bits+else-has_bits-2 w ↦ simp (sym c.has_bits.ensures ∙ w.if-has_bits.true, sym w.has_bits-then-has_bits.ensures ∙ w.if-has_bits-2.false)
  | else-has_bits-via-else-has_bits w ↦ simp (sym c.has_bits.ensures ∙ w.if-has_bits.false)
]
