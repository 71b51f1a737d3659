-- `words::by_table` meets its contract.
-- Assumes nothing.
use mathlib.Core.Path.{◌≡◌, sym, ◌∙◌, ap}
use mathlib.Core.List.{List}
use Prim.Native.Nat.{ℕ}
use native.Mathlib.Omega.{arith}
use Rattle.std.proofs.lemmas.Grind.{common_steps}
use Rattle.basis.specs.Choice.{pick}
use Rattle.words.specs.Tables.{byte_code, tabled, table_of}
use Rattle.words.proofs.Entries.{said_table, narrow, wide_c, wide_word, as_word, table_says}
use Rattle.words.proofs.by_table.Goals.{then-c-ne0-via-then-c-ne0, then-c-ne0-via-else-c-ne0+then-word-gt255}
use Rattle.words.proofs.by_table.Goals as goal

pub returns-then-c-ne0 : goal.returns-then-c-ne0
returns-then-c-ne0 c =
    let n = narrow c.requires in
    sym (elim c.then-c-ne0.branch [
      | then-c-ne0-via-then-c-ne0 w ↦ wide_c n _ _ w.if-c-ne0.true
      | then-c-ne0-via-else-c-ne0+then-word-gt255 w ↦ wide_word n _ _ w.if-word-gt255.true
    ])

pub returns : goal.returns
unfolding pick byte_code
returns c =
    let n = narrow c.requires in
    let t : c.lent.result.now ≡ table_of c.args.code = said_table c.lent.ensures (grind (arith, common_steps, n.own)) in
    let v = c.value.ensures ∙ ap (λ (t : List ℕ). tabled t c.args.code c.args.word) t ∙ table_says c.args.word c.requires in
    rw c.if-c-ne0.false (as_word n c.args.word (omega (arith, c.if-word-gt255.false)) v)
