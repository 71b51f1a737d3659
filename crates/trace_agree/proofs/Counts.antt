-- The samples of a trace by its bytes: how they grow with each byte, and which value each has.
-- Assumes nothing.
use Prim.Native.Nat.{ℕ, suc, ◌+◌, ◌-◌, ◌*◌, ◌/◌, ◌%◌, ◌≤◌, ◌<◌}
use mathlib.Core.Path.{◌≡◌, sym, ap, ◌∙◌}
use mathlib.Core.Logic.{◌⊎◌}
use native.Mathlib.Nat.{mod-lt, div-lt_iff_lt-mul, zero-div, zero-mod, zero-sub, zero-mul, mul-le-mul_right}
use native.Mathlib.Omega.{arith}
use lib.Arith.{digits_div, digits_mod}
use Rattle.basis.specs.Digits.{written}
use Rattle.basis.specs.Fields.{field}
use Rattle.codes.specs.Codes.{group_of, per_of, lead_of, word_bytes_of, bits_of}
use Rattle.codes.proofs.Rows.{Sized}
use Rattle.words.specs.Words.{value_of}
use Rattle.rules.proofs.Counts as C
use Rattle.rules.proofs.Counts.{words_in, large}
use Rattle.trace_rules.specs.Samples.{samples_in, value_at}

-- the sizes of a code that has a row
abbrev pub Sizes : ℕ → Type 0
Sizes code = Sized (group_of code) (per_of code) (lead_of code) (word_bytes_of code) (bits_of code)

module _ (code : ℕ) (z : Sizes code) where
  wide : 0 < group_of code
  wide = omega (arith, z.sum, large (per_of code) (lead_of code) (word_bytes_of code) z.wide z.some)

  abbrev pub in_group : ℕ → ℕ
  in_group n = (n - 20) % group_of code

  -- in the header there is none
  pub none_yet : (n : ℕ) → n ≤ 20 → samples_in code n ≡ 0
  unfolding samples_in
  none_yet n l =
      let e : n - 20 ≡ 0 = omega arith in
      rw (e, zero-div (group_of code), zero-mod (group_of code), zero-sub (lead_of code), zero-div (word_bytes_of code), zero-mul (per_of code))

  -- one byte more completes no sample, or is the last byte of a word
  pub data Grown (n : ℕ) : Type 0 where
    same : (in_group n < lead_of code) ⊎ (suc ((in_group n - lead_of code) % word_bytes_of code) < word_bytes_of code) → samples_in code (suc n) ≡ samples_in code n → Grown n
    more : lead_of code ≤ in_group n → suc ((in_group n - lead_of code) % word_bytes_of code) ≡ word_bytes_of code → samples_in code (suc n) ≡ suc (samples_in code n) → Grown n

  -- as words in groups have it
  counted : (n : ℕ) → samples_in code n ≡ words_in (per_of code) (lead_of code) (word_bytes_of code) (n - 20)
  unfolding samples_in
  counted n = rw z.sum

  pub grown : (n : ℕ) → 20 ≤ n → Grown n
  grown n l = go (C.grown (per_of code) (lead_of code) (word_bytes_of code) z.wide z.some (n - 20))
    where
      ahead : samples_in code (suc n) ≡ words_in (per_of code) (lead_of code) (word_bytes_of code) (suc (n - 20))
      ahead = let e : suc n - 20 ≡ suc (n - 20) = omega (arith, l) in counted (suc n) ∙ ap (words_in (per_of code) (lead_of code) (word_bytes_of code)) e

      go : C.Grown (per_of code) (lead_of code) (word_bytes_of code) z.wide z.some (n - 20) → Grown n
      go (C.same x e) = same (rw z.sum x) (ahead ∙ e ∙ sym (counted n))
      go (C.more x y e) = more (rw z.sum x) (rw z.sum y) (ahead ∙ e ∙ ap suc (sym (counted n)))

  -- the sample that is then completed: its turn in its group, and where group and word begin
  abbrev pub turn : ℕ → ℕ
  turn n = (in_group n - lead_of code) / word_bytes_of code

  abbrev pub group_start : ℕ → ℕ → ℕ
  group_start s n = s + (20 + (n - 20) / group_of code * group_of code)

  abbrev pub word_start : ℕ → ℕ → ℕ
  word_start s n = s + (20 + (n - 20) / group_of code * group_of code + (lead_of code + turn n * word_bytes_of code))

  pub value_now : (byte : ℕ → ℕ) (s n : ℕ) → 20 ≤ n
      → value_at code byte s (samples_in code n)
      ≡ value_of code (field (written 256 byte (group_start s n) (lead_of code)) (4 * (per_of code - 1 - turn n)) 4) (written 256 byte (word_start s n) (word_bytes_of code))
  unfolding value_at samples_in
  value_now byte s n l = rw (sym z.sum, digits_div ((n - 20) / group_of code) now, digits_mod ((n - 20) / group_of code) now)
    where
      now : turn n < per_of code
      now = (div-lt_iff_lt-mul z.wide).1 (omega (arith, mod-lt (n - 20) wide, z.sum, mul-le-mul_right (word_bytes_of code) z.some))
