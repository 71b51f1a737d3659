-- `words::read_word` meets its contract.
-- Assumes nothing.
use mathlib.Core.Path.{sym, ◌∙◌}
use Prim.Native.Nat.{ℕ}
use mathlib.Core.Path.{◌≡◌}
use Rattle.std.specs.Prelude.{Option, None, Some, Err}
use Rattle.std.specs.Option.{ok_or}
use Rattle.std.proofs.lemmas.Result.{err_from_is_err_and}
use Rattle.refusals.specs.declared.Refusal.{Refusal}
use Rattle.refusals.specs.declared.Refusal.TheVariants.{Format}
use Rattle.codes.specs.declared.Row.{Row}
use Rattle.codes.specs.Codes.{stem_of}
use borrow.Author.Rules.{rules}
use Rattle.codes.proofs.Rows.{fit}
use Rattle.words.specs.Words.{word_found, word_of}
use Rattle.words.specs.Tables.{OneByte, is22, is42}
use Rattle.words.proofs.Stems.{stem_word}
use Rattle.words.proofs.read_word.Goals.{then-stem-eq34-via-then-stem-eq34, then-stem-eq34-via-else-stem-eq34+then-stem-eq66}
use Rattle.words.proofs.read_word.Goals as goal

-- of no row FORMAT is told
unfound : (found : Option Row) (c word : ℕ) {x : Refusal} → ok_or found Format ≡ Err x → Err x ≡ word_found found c word
unfound None c word e = cc
unfound (Some r) c word e = cc

pub returns-then-stem-eq34 : goal.returns-then-stem-eq34
returns-then-stem-eq34 c =
    let o : OneByte (stem_of c.args.code) = elim c.then-stem-eq34.branch [
      | then-stem-eq34-via-then-stem-eq34 w ↦ is22 w.if-stem-eq34.true
      | then-stem-eq34-via-else-stem-eq34+then-stem-eq66 w ↦ is42 w.if-stem-eq66.true
    ] in
    c.by_table.ensures ∙ sym (stem_word _ _ _ (search rules) o)

pub returns-in_err-row : goal.returns-in_err-row
unfolding word_of
returns-in_err-row c =
    let p = err_from_is_err_and c.from_residual.result c.from_residual.ensures.1 in
    p.1 ∙ rw (p.2, ← c.find.ensures) (unfound c.find.result c.args.c c.args.word (sym c.ok_or.ensures.value ∙ c.in_err-row.was))

pub of_row-requires : goal.of_row-requires
of_row-requires c = fit c.args.code _ (sym c.find.ensures ∙ c.in_ok-row.ensures.ok_part)

pub returns : goal.returns
unfolding word_of
returns c = rw (← c.find.ensures, c.in_ok-row.ensures.ok_part) c.of_row.ensures
