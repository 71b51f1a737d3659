-- `words::value15` meets its contract.
-- Assumes nothing.
use Prim.Native.Nat.{◌/◌, ◌%◌}
use mathlib.Core.Path.{refl, ◌∙◌}
use native.Mathlib.Omega.{arith}
use native.Mathlib.Nat.{add-zero, mod-lt}
use lib.Pow.{pow_pos}
use Rattle.basis.specs.Choice.{pick}
use Rattle.basis.specs.Fields.{field}
use Rattle.codes.specs.Codes.{row_of, find_in, table}
use Rattle.words.specs.Words.{negative_zero, off_rule}
use Rattle.words.proofs.Joins.{both_ones}
use Rattle.words.proofs.Parts.{value_of_lem, from_parts}
use borrow.Author.Rules.{rules}
use Rattle.words.proofs.value15.Goals as goal

pub returns : goal.returns
unfolding row_of find_in table pick field off_rule negative_zero
returns c =
    let d = c in
    let a = d.args in
    let t = a.word / 2 in
    value_of_lem 0x0015 _ refl (a.c % 16) _ (mod-lt a.c (pow_pos 4)) (search rules) (
    from_parts _ (a.c % 16) a.word {s = t / 16384} {e = 0} {q = t % 16384} {last = a.word % 2} (omega arith) (omega arith) refl (omega arith)
    (search rules ∙ (rw c.from-w.ensures at d.fraction15.ensures)) (search rules ∙ c.power.ensures ∙ rw (add-zero (a.c % 16)))
    (rw (c.last_bit.ensures, c.from-w.ensures, both_ones {a = t} {b = 32767} (t / 16384) (t % 16384) 16384 (omega arith) (omega arith) (λ e. omega arith) (λ e. omega arith))))
