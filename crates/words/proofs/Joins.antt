-- The parts of a word taken together: an exponent in two places, and when all bits are set.
-- Assumes nothing.
use Prim.Native.Nat.{ℕ, zero, suc, ◌+◌, ◌-◌, ◌*◌, ◌^◌, ◌<◌, ◌≤◌}
use mathlib.Core.Path.{◌≡◌, refl}
use mathlib.Core.Bool.{Bool, true, false, ◌&&◌}
use native.Mathlib.Nat.{suc-mul, mul-suc}
use native.Mathlib.Omega.{arith}
use lib.Dec.{eqb}
use lib.Pow.{pow-add}
use borrow.Author.Tests.{eq-eqb, ne_eqb, eqb-true, eqb-false}

add_lt_mul : (x y : ℕ) {c d : ℕ} → c < x → d < y → c + d < x * y
add_lt_mul zero y h l = absurd (omega arith)
add_lt_mul (suc x) zero h l = absurd (omega arith)
add_lt_mul (suc x) (suc y) h l = rw (suc-mul x (suc y), mul-suc x y) (omega arith)

-- an exponent is of b bits, of which some may stand apart
pub exponent_below : {a b c e : ℕ} → a ≤ b → c < 2 ^ a → e < 2 ^ (b - a) → c + e < 2 ^ b
exponent_below {a} {b} {c} {e} h hc he =
    let s : b ≡ a + (b - a) = omega arith in
    rw (s, pow-add 2 a (b - a)) (add_lt_mul (2 ^ a) (2 ^ (b - a)) hc he)

-- numbers that sum to the sum of their greatest are the greatest
module _ (s e q m k l : ℕ) (hs : s ≤ m) (he : e ≤ k) (hq : q ≤ l) where
  by_tests : (t u v : Bool) → eqb s m ≡ t → eqb e k ≡ u → eqb q l ≡ v → eqb (s + e + q) (m + k + l) ≡ (t && (u && v))
  by_tests true true true ps pe pq =
      eq-eqb (s + e + q) (m + k + l) (omega (arith, eqb-true s m ps, eqb-true e k pe, eqb-true q l pq))
  by_tests true true false ps pe pq = ne_eqb (s + e + q) (m + k + l) (λ z. eqb-false q l pq (omega (arith, z)))
  by_tests true false v ps pe pq = ne_eqb (s + e + q) (m + k + l) (λ z. eqb-false e k pe (omega (arith, z)))
  by_tests false u v ps pe pq = ne_eqb (s + e + q) (m + k + l) (λ z. eqb-false s m ps (omega (arith, z)))

  pub all_greatest : eqb (s + e + q) (m + k + l) ≡ (eqb s m && (eqb e k && eqb q l))
  all_greatest = by_tests (eqb s m) (eqb e k) (eqb q l) refl refl refl

-- two tests are one where each says the other
module _ {a b c d : ℕ} (f : a ≡ b → c ≡ d) (g : c ≡ d → a ≡ b) where
  told : (t : Bool) → eqb c d ≡ t → eqb a b ≡ t
  told true e = eq-eqb a b (g (eqb-true c d e))
  told false e = ne_eqb a b (λ z. eqb-false c d e (f z))

  same_test : eqb a b ≡ eqb c d
  same_test = told (eqb c d) refl

-- a test for negative zero, of S and of Q below p: that they make p says that both are all ones
pub both_ones : {a b : ℕ} (s q p : ℕ) → s < 2 → q < p → (a ≡ b → s + q ≡ p) → (s + q ≡ p → a ≡ b) → eqb a b ≡ (eqb s 1 && eqb (p - 1 - q) 0)
both_ones {a} {b} zero q p l h f g = ne_eqb a b (λ e. omega (arith, f e))
both_ones (suc zero) q p l h f g = same_test {c = p - 1 - q} {d = 0} (λ e. omega (arith, f e)) (λ e. g (omega arith))
both_ones (suc (suc s)) q p l h f g = absurd (omega arith)
