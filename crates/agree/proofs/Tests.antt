-- Tests that say the same in other words, and the parts of a scan.
-- Assumes nothing.
use Prim.Native.Nat.{ℕ, zero, suc, ◌+◌, ◌*◌, ◌/◌, ◌%◌, ◌^◌, ◌≤◌, ◌<◌}
use mathlib.Core.Path.{◌≡◌, refl, sym, ap, ◌∙◌}
use mathlib.Core.Bool.{Bool, true, false, not}
use native.Mathlib.Nat.{lt_of_not-le, not-le_of_lt, mod-lt}
use native.Mathlib.Omega.{arith}
use lib.Arith.{digits_mod}
use lib.Dec.{eqb, ltb, leb}
use borrow.Author.Tests.{eqb-true, eqb-false, ltb-true, ltb-false, leb-true, leb-false, lt-ltb, le-ltb, eq-eqb, ne_eqb, le-leb, lt-leb}
use Rattle.basis.specs.Choice.{pick}
use Rattle.basis.specs.Fields.{field}

pub same_test : (a b c d : ℕ) → (a ≤ b → c ≤ d) → (c ≤ d → a ≤ b) → leb a b ≡ leb c d
same_test a b c d f g = go (leb a b) refl
  where
    go : (t : Bool) → leb a b ≡ t → t ≡ leb c d
    go true e = sym (le-leb c d (f (leb-true a b e)))
    go false e = sym (lt-leb c d (lt_of_not-le (λ x. not-le_of_lt (leb-false a b e) (g x))))

pub bit_low : (m at : ℕ) → field m at 1 < 2
unfolding field
bit_low m at = mod-lt (m / 2 ^ at) (let z : 0 < 2 = omega arith in z)

pub bit_test : (d : ℕ) → d < 2 → eqb d 0 ≡ not (eqb d 1)
bit_test d l = go (eqb d 0) refl
  where
    go : (t : Bool) → eqb d 0 ≡ t → t ≡ not (eqb d 1)
    go true e = rw (ne_eqb d 1 (λ x. omega (arith, eqb-true d 0 e)))
    go false e = let n : d ≡ 0 → ⊥ = eqb-false d 0 e in rw (eq-eqb d 1 (omega arith))

pub clash : (t : Bool) → t ≡ true → t ≡ false → ⊥
unfolding pick
clash t e f = let z : ◌≡◌ {A = ℕ} 0 1 = ap (λ (x : Bool). pick x 0 1) (sym e ∙ f) in omega arith

pub not_not : (t : Bool) → not (not t) ≡ t
not_not true = refl
not_not false = refl

pub le_test : (n k : ℕ) → leb n k ≡ not (ltb k n)
le_test n k = go (leb n k) refl
  where
    go : (t : Bool) → leb n k ≡ t → t ≡ not (ltb k n)
    go true e = rw (le-ltb k n (leb-true n k e))
    go false e = rw (lt-ltb k n (leb-false n k e))

pub pos_test : (n : ℕ) → ltb 0 n ≡ not (eqb n 0)
pos_test zero = refl
pos_test (suc n) = lt-ltb 0 (suc n) (omega arith) ∙ sym (ap not (ne_eqb (suc n) 0 (λ x. omega arith)))

-- a timing word as the top of a u32: its next is a sum that wraps at 2^32
top_mod : (c s : ℕ) → (c * 256 + s * 256) % 4294967296 ≡ (c + s) % 16777216 * 256
top_mod c s =
    let e : c * 256 + s * 256 ≡ (c + s) / 16777216 * 4294967296 + (c + s) % 16777216 * 256 = omega arith in
    rw e (digits_mod ((c + s) / 16777216) {m = 4294967296} {r = (c + s) % 16777216 * 256} (omega arith))

scaled : (x y : ℕ) → eqb (x * 256) (y * 256) ≡ eqb x y
scaled x y = go (eqb x y) refl
  where
    go : (t : Bool) → eqb x y ≡ t → eqb (x * 256) (y * 256) ≡ t
    go true e = eq-eqb (x * 256) (y * 256) (omega (arith, eqb-true x y e))
    go false e = let q : x ≡ y → ⊥ = eqb-false x y e in ne_eqb (x * 256) (y * 256) (λ z. q (omega arith))

pub top_step : (a c s : ℕ) → eqb (a * 256) ((c * 256 + s * 256) % 4294967296) ≡ eqb a ((c + s) % 16777216)
top_step a c s = rw (top_mod c s) (scaled a ((c + s) % 16777216))

-- the test for the first scan, at a place j * B + r
abbrev pub is_zero : ℕ → Bool
is_zero zero = true
is_zero (suc j) = false

pub in_first : (B j r : ℕ) → r < B → ltb (j * B + r) B ≡ is_zero j
in_first B zero r h = lt-ltb (0 * B + r) B (omega arith)
in_first B (suc j) r h = le-ltb (suc j * B + r) B (omega arith)

-- scans of which at least k bytes are read, at place r of scan j
abbrev pub seen : ℕ → ℕ → ℕ → ℕ
seen k j r = pick (ltb r k) j (suc j)

pub seen_still : (k j r : ℕ) → (r ≡ k → ⊥) → seen (suc k) j (suc r) ≡ seen (suc k) j r
seen_still k j r n = ap (λ (t : Bool). pick t j (suc j)) (go (ltb r k) refl)
  where
    go : (t : Bool) → ltb r k ≡ t → ltb (suc r) (suc k) ≡ ltb r (suc k)
    go true e = lt-ltb (suc r) (suc k) (omega (arith, ltb-true r k e)) ∙ sym (lt-ltb r (suc k) (omega (arith, ltb-true r k e)))
    go false e = le-ltb (suc r) (suc k) (omega (arith, ltb-false r k e)) ∙ sym (le-ltb r (suc k) (omega (arith, ltb-false r k e)))

-- the parts of a scan, by the place in it, counted from 0
pub data Spot (r : ℕ) : Type 0 where
  start : r < 3 → Spot r
  fourth : r ≡ 3 → Spot r
  time : 4 ≤ r → r < 7 → Spot r
  nought : r ≡ 7 → Spot r
  word : 8 ≤ r → Spot r

pub spot : (r : ℕ) → Spot r
spot r = go (ltb r 3) (eqb r 3) (ltb r 7) (eqb r 7) refl refl refl refl
  where
    go : (a b c d : Bool) → ltb r 3 ≡ a → eqb r 3 ≡ b → ltb r 7 ≡ c → eqb r 7 ≡ d → Spot r
    go true b c d e f g h = start (ltb-true r 3 e)
    go false true c d e f g h = fourth (eqb-true r 3 f)
    go false false true d e f g h = let n : r ≡ 3 → ⊥ = eqb-false r 3 f in time (omega (arith, ltb-false r 3 e)) (ltb-true r 7 g)
    go false false false true e f g h = nought (eqb-true r 7 h)
    go false false false false e f g h = let n : r ≡ 7 → ⊥ = eqb-false r 7 h in word (omega (arith, ltb-false r 7 g))
