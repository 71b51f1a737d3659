-- A sample from the parts of its word, and which words of a row are read.
-- Assumes nothing.
use Rattle.std.specs.Prelude.{Err, Ok, Some}
use Prim.Native.Nat.{ℕ, zero, suc, ◌+◌, ◌-◌, ◌^◌, ◌<◌}
use mathlib.Core.Path.{◌≡◌, sym, ◌∙◌, ap}
use mathlib.Core.Bool.{Bool, false, ◌&&◌, ◌||◌}
use native.Mathlib.Nat.{zero-mul, add-zero, zero-div, zero-mod}
use native.Mathlib.Omega.{arith}
use lib.Dec.{ltb}
use lib.IntN.{ℤ}
use borrow.Author.Tests.{lt-ltb}
use Rattle.basis.specs.Choice.{pick}
use Rattle.basis.specs.Fields.{field, joined}
use Rattle.basis.proofs.FieldLaws.{rejoined}
use Rattle.codes.specs.declared.Row.{Row}
use Rattle.codes.specs.Codes.{row_of}
use Rattle.refusals.specs.declared.Refusal.TheVariants.{Index}
use Rattle.words.specs.declared.Value.{Value}
use Rattle.words.specs.Words.{signed_fraction, power_of, off_rule, sample_in, word_in, word_of, valued, value_of, sign_in, fraction_in, last_in, spare_of}

pub from_parts : (r : Row) (c word : ℕ) {s e q last : ℕ} {m x : ℤ} {off : Bool}
    → s ≡ sign_in r word
    → e ≡ field word (spare_of r + r.fraction) (r.exponent - r.apart)
    → q ≡ fraction_in r word
    → last ≡ last_in r word
    → m ≡ signed_fraction r.kind r.fraction s q
    → x ≡ power_of r.base r.bias r.fraction (c + e)
    → off ≡ off_rule r.kind r.fraction r.exponent last s (c + e) q
    → record { m = m; x = x; off = off } ≡ sample_in r c word
unfolding sample_in
from_parts r c word hs he hq hl hm hx ho = rw (hm, hx, ho, hs, he, hq, hl)

-- a word's parts are not all zero where it is not
joined_some : (ew n k last q e s : ℕ) → 0 < joined ew n k s e q last → 0 < last + (s + e + q)
joined_some ew n k (suc last) q e s h = omega arith
joined_some ew n k zero (suc q) e s h = omega arith
joined_some ew n k zero zero (suc e) s h = omega arith
joined_some ew n k zero zero zero (suc s) h = omega arith
joined_some ew n k zero zero zero zero h = simp (zero-mul, add-zero) at h

field_zero : (at size : ℕ) → field 0 at size ≡ 0
unfolding field
field_zero at size = rw (zero-div (2 ^ at), zero-mod (2 ^ size))

-- whether a bit of a word, or of the exponent c apart from it, is set
pub any_bit : (ew n k c word : ℕ) {at w s e q last : ℕ} → at ≡ k + n + ew → w ≡ 1 + at → word < 2 ^ w
    → s ≡ field word at 1
    → e ≡ field word (k + n) ew
    → q ≡ field word k n
    → last ≡ field word 0 k
    → (ltb 0 c || ltb 0 word) ≡ ltb 0 (last + (s + (c + e) + q))
any_bit ew n k (suc c) word {s = s} {e = e} {q = q} {last = last} ha hw h hs he hq hl =
    rw (lt-ltb 0 (suc c) (omega arith), lt-ltb 0 (last + (s + (suc c + e) + q)) (omega arith))
any_bit ew n k zero zero {at = at} ha hw h hs he hq hl = rw (hs, he, hq, hl, field_zero at 1, field_zero (k + n) ew, field_zero k n, field_zero 0 k)
any_bit ew n k zero (suc word) {s = s} {e = e} {q = q} {last = last} ha hw h hs he hq hl =
    let j : joined ew n k s e q last ≡ suc word = rw (hs, he, hq, hl, ha) (rejoined ew n k (suc word) (rw (hw, ha) at h)) in
    let g = joined_some ew n k last q e s (rw j (omega arith)) in
    rw (lt-ltb 0 (suc word) (omega arith), lt-ltb 0 (last + (s + (0 + e) + q)) (omega (arith, g)))

-- a code's word is its row's, and one that is no wider than the code's is read
module _ (code : ℕ) (r : Row) (e : row_of code ≡ Some r) where
  word_row : (c word : ℕ) → word_of code c word ≡ word_in r c word
  unfolding word_of
  word_row c word = rw e

  pub taken : (c word : ℕ) → c < 2 ^ r.apart → word < 2 ^ (r.width - r.apart) → word_of code c word ≡ Ok (sample_in r c word)
  unfolding word_in pick
  taken c word hc hw = word_row c word ∙ rw (lt-ltb c (2 ^ r.apart) hc, lt-ltb word (2 ^ (r.width - r.apart)) hw)

  -- and one that is wider is not
  pub not_taken : (c word : ℕ) → (ltb c (2 ^ r.apart) && ltb word (2 ^ (r.width - r.apart))) ≡ false → word_of code c word ≡ Err Index
  unfolding word_in pick
  not_taken c word h = word_row c word ∙ rw h

  pub value_of_lem : (c word : ℕ) {v : Value} → c < 2 ^ r.apart → word < 2 ^ (r.width - r.apart)
      → v ≡ sample_in r c word → v ≡ value_of code c word
  unfolding value_of
  value_of_lem c word hc hw h = h ∙ ap valued (sym (taken c word hc hw))
