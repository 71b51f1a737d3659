-- A one-byte word of an 80xx code is that of the code without the 8: their rows differ in the code alone.
-- Assumes nothing.
use Prim.Native.Nat.{ℕ, ◌+◌, ◌<◌}
use mathlib.Core.Path.{◌≡◌, refl, ◌∙◌, ap}
use mathlib.Core.Bool.{Bool, true, false}
use native.Mathlib.Omega.{arith}
use lib.Dec.{ltb}
use borrow.Author.Tests.{ltb-true, ltb-false}
use Rattle.basis.specs.Choice.{pick}
use Rattle.codes.specs.Codes.{row_of, find_in, table, stem_of}
use Rattle.words.specs.Words.{sample_in, word_in, word_of}
use Rattle.words.specs.Tables.{OneByte, is22, is42}

with_8 : {stem : ℕ} (c word : ℕ) → OneByte stem → word_of (0x8000 + stem) c word ≡ word_of stem c word
unfolding word_of row_of find_in table pick word_in sample_in
with_8 c word (is22 e) = rw e
with_8 c word (is42 e) = rw e

pub stem_word : (code c word : ℕ) → code < 0x10000 → OneByte (stem_of code) → word_of code c word ≡ word_of (stem_of code) c word
stem_word code c word l o = go (ltb code 0x8000) refl
  where
    go : (t : Bool) → ltb code 0x8000 ≡ t → word_of code c word ≡ word_of (stem_of code) c word
    go true e =
        let h = ltb-true code 0x8000 e in
        let s : code ≡ stem_of code = omega arith in
        ap (λ (x : ℕ). word_of x c word) s
    go false e =
        let h = ltb-false code 0x8000 e in
        let s : code ≡ 0x8000 + stem_of code = omega arith in
        ap (λ (x : ℕ). word_of x c word) s ∙ with_8 c word o
