-- What a test finds of every row of the table holds of the row of a code.
-- Assumes nothing.
use Rattle.std.specs.Prelude.{None, Option, Some}
use Prim.Native.Nat.{ℕ, suc, ◌+◌, ◌*◌, ◌≤◌, ◌<◌}
use mathlib.Core.Path.{◌≡◌, refl, subst}
use mathlib.Core.Bool.{Bool, true, false, cond, not, ◌&&◌, ◌||◌}
use mathlib.Core.List.{List, [], ◌∷◌}
use native.Mathlib.Omega.{arith}
use lib.Dec.{T, T_not, eqb, leb, ltb, eqb→eq, leb→le, ltb→lt}
use lib.Ieee.Bits.{is_true}
use mir.Facts.{and_yes}
use borrow.Author.Tests.{leb-true, eqb-true}
use Rattle.std.proofs.lemmas.Option.{none-some, same_Some}
use Rattle.basis.specs.Choice.{pick}
use Rattle.basis.proofs.Choices.{and_true}
use Rattle.basis.proofs.Tables.{every}
use Rattle.codes.specs.declared.Row.{Row}
use Rattle.codes.specs.Codes.{find_in, table, row_of, SoundRow, group_in, group_of, per_in, per_of, lead_in, lead_of, word_bytes_in, word_bytes_of, bits_of, of_row}

-- the words of a group, whatever their width: one by itself, or four after their exponents
pub data Words (group per lead word : ℕ) : Type 0 where
  alone : group ≡ word → per ≡ 1 → lead ≡ 0 → word ≤ 4 → (word ≡ 3 → ⊥) → Words group per lead word
  fours : group ≡ 10 → per ≡ 4 → lead ≡ 2 → word ≡ 2 → Words group per lead word

-- a group is its exponents and its words, its bits are those of its samples, and a sample has those of a byte at least
pub record Sized (group per lead word bits : ℕ) : Type 0 where
  pub words : Words group per lead word
  pub sum : group ≡ lead + per * word
  pub bytes : 8 * group ≡ per * bits
  pub some : 0 < per
  pub wide : 0 < word
  pub many : 8 ≤ bits

one_of : (P : Row → Type 0) (a r : Row) (rest : Option Row) (t : Bool) → (t ≡ true → P a) → (rest ≡ Some r → P r) → cond t (Some a) rest ≡ Some r → P r
one_of P a r rest true p g e = subst P (same_Some a r e) (p refl)
one_of P a r rest false p g e = g e

found : (f : Row → Bool) (rs : List Row) (i code : ℕ) (r : Row) → T (every (λ (k : ℕ). f) i rs) → find_in rs code ≡ Some r → T (f r)
unfolding find_in
found f [] i code r t e = absurd (none-some r e)
found f (a ∷ rs) i code r t e =
    let p = and_yes (f a) (every (λ (k : ℕ). f) (suc i) rs) t in
    one_of (λ (x : Row). T (f x)) a r (find_in rs code) (eqb a.code code) (λ q. p.0) (found f rs (suc i) code r p.1) e

pub holds : (f : Row → Bool) (rs : List Row) (code : ℕ) (r : Row) → T (every (λ (k : ℕ). f) 0 rs) → find_in rs code ≡ Some r → T (f r)
holds f rs code r t e = found f rs 0 code r t e

-- the row of a code has that code
found_code : (rs : List Row) (code : ℕ) (r : Row) → find_in rs code ≡ Some r → r.code ≡ code
unfolding find_in
found_code [] code r e = absurd (none-some r e)
found_code (a ∷ rs) code r e = one_of (λ (x : Row). x.code ≡ code) a r (find_in rs code) (eqb a.code code) (eqb-true a.code code) (found_code rs code r) e

pub row_code : (code : ℕ) (r : Row) → row_of code ≡ Some r → r.code ≡ code
unfolding row_of
row_code code r e = found_code table code r e

-- each row of the table keeps to SoundRow: a test, and what a row that passes it keeps to
abbrev sound : Row → Bool
sound r =
    leb r.apart 4 && leb r.fraction 23 && leb r.exponent 7 && leb (1 + r.exponent + r.fraction) r.width
    && leb r.width 32 && leb r.apart r.exponent && leb 4 r.fraction && leb r.base 4 && leb r.bias 64

sound_fit : (r : Row) → sound r ≡ true → SoundRow r
sound_fit r e =
    let a = and_true _ (leb r.bias 64) e in
    let b = and_true _ (leb r.base 4) a.0 in
    let d = and_true _ (leb 4 r.fraction) b.0 in
    let f = and_true _ (leb r.apart r.exponent) d.0 in
    let g = and_true _ (leb r.width 32) f.0 in
    let h = and_true _ (leb (1 + r.exponent + r.fraction) r.width) g.0 in
    let i = and_true _ (leb r.exponent 7) h.0 in
    let j = and_true (leb r.apart 4) (leb r.fraction 23) i.0 in
    record {
      whole = leb-true _ _ h.1;
      narrow = leb-true _ _ g.1;
      inside = leb-true _ _ f.1;
      short = leb-true _ _ j.0;
      some = leb-true _ _ d.1;
      few = leb-true _ _ j.1;
      small = leb-true _ _ i.1;
      hex = leb-true _ _ b.1;
      half = leb-true _ _ a.1;
    }

pub fit : (code : ℕ) (r : Row) → row_of code ≡ Some r → SoundRow r
unfolding row_of table
fit code r e = sound_fit r (is_true (sound r) (holds sound table code r tt e))

-- a row's groups, as one test
abbrev single : Row → Bool
single r = eqb (group_in r) (word_bytes_in r) && (eqb (per_in r) 1 && (eqb (lead_in r) 0 && (leb (word_bytes_in r) 4 && not (eqb (word_bytes_in r) 3))))

abbrev in_fours : Row → Bool
in_fours r = eqb (group_in r) 10 && (eqb (per_in r) 4 && (eqb (lead_in r) 2 && eqb (word_bytes_in r) 2))

abbrev sizes : Row → Bool
sizes r =
    eqb (group_in r) (lead_in r + per_in r * word_bytes_in r)
    && (eqb (8 * group_in r) (per_in r * r.width) && (ltb 0 (per_in r) && (ltb 0 (word_bytes_in r) && (leb 8 r.width && (single r || in_fours r)))))

split : {P : Type 0} (a b : Bool) → (T a → P) → (T b → P) → T (a || b) → P
split true b f g t = f tt
split false b f g t = g t

one_word : (r : Row) → T (single r) → Words (group_in r) (per_in r) (lead_in r) (word_bytes_in r)
one_word r t =
    let w = and_yes (eqb (group_in r) (word_bytes_in r)) _ t in
    let x = and_yes (eqb (per_in r) 1) _ w.1 in
    let y = and_yes (eqb (lead_in r) 0) _ x.1 in
    let z = and_yes (leb (word_bytes_in r) 4) _ y.1 in
    alone (eqb→eq _ _ w.0) (eqb→eq _ _ x.0) (eqb→eq _ _ y.0) (leb→le _ _ z.0) (λ e. T_not (eqb (word_bytes_in r) 3) z.1 (rw e tt))

four_words : (r : Row) → T (in_fours r) → Words (group_in r) (per_in r) (lead_in r) (word_bytes_in r)
four_words r t =
    let x = and_yes (eqb (group_in r) 10) _ t in
    let y = and_yes (eqb (per_in r) 4) _ x.1 in
    let z = and_yes (eqb (lead_in r) 2) _ y.1 in
    fours (eqb→eq _ _ x.0) (eqb→eq _ _ y.0) (eqb→eq _ _ z.0) (eqb→eq _ _ z.1)

sized_in : (r : Row) → T (sizes r) → Sized (group_in r) (per_in r) (lead_in r) (word_bytes_in r) r.width
sized_in r t =
    let v = and_yes (eqb (group_in r) (lead_in r + per_in r * word_bytes_in r)) _ t in
    let w = and_yes (eqb (8 * group_in r) (per_in r * r.width)) _ v.1 in
    let x = and_yes (ltb 0 (per_in r)) _ w.1 in
    let y = and_yes (ltb 0 (word_bytes_in r)) _ x.1 in
    let z = and_yes (leb 8 r.width) _ y.1 in
    record {
      words = split (single r) (in_fours r) (one_word r) (four_words r) z.1;
      sum = eqb→eq _ _ v.0;
      bytes = eqb→eq _ _ w.0;
      some = ltb→lt _ _ x.0;
      wide = ltb→lt _ _ y.0;
      many = leb→le _ _ z.0;
    }

pub sized : (code : ℕ) (r : Row) → row_of code ≡ Some r → Sized (group_of code) (per_of code) (lead_of code) (word_bytes_of code) (bits_of code)
unfolding row_of find_in table group_in per_in lead_in word_bytes_in pick group_of per_of lead_of word_bytes_of bits_of
sized code r e = rw e (sized_in r (holds sizes table code r tt e))

pub bits_few : (code : ℕ) → bits_of code ≤ 32
unfolding bits_of
bits_few code = go (row_of code) refl
  where
    go : (f : Option Row) → row_of code ≡ f → of_row (λ (r : Row). r.width) f ≤ 32
    go None e = omega arith
    go (Some r) e = (fit code r e).narrow

pub group_none : (code : ℕ) → row_of code ≡ None → group_of code ≡ 0
unfolding group_of
group_none code e = rw e

-- a code whose groups have some bytes has a row
pub some_sized : (code : ℕ) → 0 < group_of code → Sized (group_of code) (per_of code) (lead_of code) (word_bytes_of code) (bits_of code)
some_sized code h = go (row_of code) refl
  where
    go : (f : Option Row) → row_of code ≡ f → Sized (group_of code) (per_of code) (lead_of code) (word_bytes_of code) (bits_of code)
    go None e = absurd (omega (arith, h, group_none code e))
    go (Some r) e = sized code r e
