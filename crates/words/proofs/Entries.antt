-- What the two tables say: entry b of a code's table is the word of byte b; and the answers to the words of the two codes.
-- Assumes nothing.
use Rattle.std.specs.Prelude.{Err, Ok, Some}
use Prim.Native.Nat.{ℕ, zero, suc, ◌/◌, ◌%◌, ◌≤◌, ◌<◌}
use mathlib.Core.Path.{◌≡◌, refl, subst, sym, ◌∙◌, ap}
use mathlib.Core.Bool.{Bool, true, false, and-false}
use mathlib.Core.List.{List, [], ◌∷◌}
use mathlib.Core.Logic.{⊎_elim}
use native.Mathlib.Nat.{eq-or-lt_of_le}
use native.Mathlib.Omega.{arith}
use lib.Dec.{ltb}
use lib.ListN.{length, length-append, get_or, get_or-eq_default, get_or-append}
use lib.Seq.{get_or_at}
use borrow.Author.Tests.{le-ltb, ltb-true, ltb-false}
use Rattle.basis.specs.Choice.{pick}
use Rattle.basis.specs.Fields.{field}
use Rattle.basis.specs.Upto.{upto, list_upto}
use Rattle.refusals.specs.declared.Refusal.TheVariants.{Index}
use Rattle.codes.specs.declared.Kind.TheVariants.{OnesComplement, SignMagnitude}
use Rattle.codes.specs.declared.Row.{Row}
use Rattle.codes.specs.Codes.{table, find_in, row_of, row}
use Rattle.words.specs.declared.Value.{Value}
use Rattle.words.specs.Words.{signed_fraction, power_of, last_bit, negative_zero, all_ones, off_rule, sample_in, word_in, word_of, valued, value_of}
use Rattle.words.specs.Tables.{OneByte, is22, is42, byte_code, signed_of, entry_of, table_of, tabled}
use Rattle.words.proofs.Parts.{taken, not_taken}

-- what f says of each number below n
abbrev pub said : {A : Type 0} → (ℕ → A) → ℕ → List A
said f zero = []
said f (suc n) = f n ∷ said f n

heads : {A : Type 0} {a b : A} {xs ys : List A} → a ∷ xs ≡ b ∷ ys → (a ≡ b) × (xs ≡ ys)
heads e = (cc, cc)

-- two functions that agree on all numbers below n, as computed, agree on each
pub same : {A : Type 0} (f g : ℕ → A) (n : ℕ) → said f n ≡ said g n → (b : ℕ) → b < n → f b ≡ g b
same f g zero e b h = absurd (omega arith)
same f g (suc n) e b h =
    ⊎_elim (λ (z : b ≡ n). subst (λ (k : ℕ). f k ≡ g k) (sym z) (heads e).0) (λ (l : b < n). same f g n (heads e).1 b l)
    (eq-or-lt_of_le (let k : b ≤ n = omega arith in k))

-- a list of f 0, f 1, .. and its entries
module _ (f : ℕ → ℕ) where
  listed : ℕ → List ℕ
  listed n = list_upto (λ (k : ℕ). f k ∷ []) n

  listed_length : (n : ℕ) → length (listed n) ≡ n
  unfolding listed upto
  listed_length zero = refl
  listed_length (suc n) = rw (length-append, listed_length n) (omega arith)

  listed_at : (n b : ℕ) → b < n → get_or (listed n) b 0 ≡ f b
  unfolding listed upto
  listed_at zero b h = absurd (omega arith)
  listed_at (suc n) b h =
      ⊎_elim (λ (z : b ≡ n). rw z (get_or_at (listed n) (f n) [] 0 n (listed_length n)))
      (λ (l : b < n). get_or-append (listed n) (f n ∷ []) 0 b (rw (listed_length n) l) ∙ listed_at n b l)
      (eq-or-lt_of_le (let k : b ≤ n = omega arith in k))

  listed_past : (n b : ℕ) → n ≤ b → get_or (listed n) b 0 ≡ 0
  listed_past n b h = get_or-eq_default (listed n) 0 (rw (listed_length n) h)

-- what an entry says of a byte
abbrev entered : ℕ → ℕ → ℕ → Value
entered code e b = record { m = signed_of (e % 0x100000000); x = signed_of (e / 0x100000000); off = (value_of (byte_code code) 0 b).off }

says : {code : ℕ} (b : ℕ) → OneByte code → b < 256 → entered code (entry_of code b) b ≡ value_of code 0 b
unfolding row_of find_in table pick field signed_fraction power_of last_bit negative_zero all_ones off_rule sample_in word_in word_of value_of byte_code signed_of entry_of
says b (is22 e) h = rw e (same (λ (k : ℕ). entered 0x0022 (entry_of 0x0022 k) k) (λ (k : ℕ). value_of 0x0022 0 k) 256 refl b h)
says b (is42 e) h = rw e (same (λ (k : ℕ). entered 0x0042 (entry_of 0x0042 k) k) (λ (k : ℕ). value_of 0x0042 0 k) 256 refl b h)

-- the row of a code whose words have one byte
pub record Narrow (code : ℕ) : Type 0 where
  pub row : Row
  pub found : row_of code ≡ Some row
  pub apart : row.apart ≡ 0
  pub width : row.width ≡ 8
  pub own : byte_code code ≡ code

pub narrow : {code : ℕ} → OneByte code → Narrow code
unfolding row_of find_in table pick byte_code
narrow (is22 e) = record { row = row 0x0022 8 0 4 2 3 0 OnesComplement; found = rw e; apart = refl; width = refl; own = rw e }
narrow (is42 e) = record { row = row 0x0042 8 0 5 4 2 0 SignMagnitude; found = rw e; apart = refl; width = refl; own = rw e }

-- the table of a code that is named otherwise
pub said_table : {code named : ℕ} {t : List ℕ} → t ≡ table_of code → code ≡ named → t ≡ table_of named
said_table e i = rw (← i) e

module _ {code : ℕ} (n : Narrow code) where
  -- c is not 0
  pub wide_c : (c word : ℕ) → (c ≡ 0 → ⊥) → word_of code c word ≡ Err Index
  wide_c c word h = not_taken code n.row n.found c word (rw (n.apart, le-ltb c 1 (omega (arith, h))))

  pub wide_word : (c word : ℕ) → 255 < word → word_of code c word ≡ Err Index
  wide_word c word h = not_taken code n.row n.found c word (rw (n.apart, n.width, le-ltb word 256 h, and-false))

  in_width : (word : ℕ) → word < 256 → word_of code 0 word ≡ Ok (sample_in n.row 0 word)
  in_width word h = taken code n.row n.found 0 word (rw n.apart (omega arith)) (rw (n.apart, n.width) h)

  -- a byte's word, from its value
  pub as_word : (word : ℕ) {v : Value} → word < 256 → v ≡ value_of code 0 word → Ok v ≡ word_of code 0 word
  unfolding value_of
  as_word word h e = rw (e, in_width word h)

  -- no byte has it
  no_value : (b : ℕ) → 256 ≤ b → value_of code 0 b ≡ valued (Err Index)
  unfolding value_of
  no_value b h = ap valued (wide_word 0 b (omega arith))

-- a code's table says of each byte the byte's word
pub table_says : {code : ℕ} (b : ℕ) → OneByte code → tabled (table_of code) code b ≡ value_of code 0 b
unfolding tabled table_of listed signed_of pick
table_says {code} b o = go (ltb b 256) refl
  where
    go : (t : Bool) → ltb b 256 ≡ t → tabled (table_of code) code b ≡ value_of code 0 b
    go true e =
        let h = ltb-true b 256 e in
        rw (listed_at (entry_of code) 256 b h) (says b o h)
    go false e =
        let h = ltb-false b 256 e in
        let n = narrow o in
        rw (listed_past (entry_of code) 256 b h, n.own, no_value n b h)
