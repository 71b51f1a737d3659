-- `words::off_rule` meets its contract.
-- Assumes nothing.
use Prim.Native.Nat.{ℕ, zero, suc, ◌+◌, ◌-◌, ◌/◌, ◌^◌, ◌<◌, ◌≤◌}
use mathlib.Core.Path.{◌≡◌, refl, sym, ◌∙◌, ap}
use mathlib.Core.Bool.{Bool, true, false, ◌&&◌, ◌||◌}
use native.Mathlib.Nat.{add-zero, zero-add, one-mul, mod-eq_of_lt, div-eq_of_lt, le-div_iff_mul-le}
use native.Mathlib.Omega.{arith}
use lib.Dec.{eqb, ltb}
use lib.Pow.{pow_pos, shr_lt}
use borrow.Author.Tests.{lt-ltb, eq-eqb, ne_eqb, ltb-true, ltb-false}
use Rattle.basis.specs.Fields.{field}
use Rattle.words.specs.Words.{last_bit, not_true_zero, not_justified, off_rule}
use Rattle.words.proofs.off_rule.Goals as goal

units : (b : Bool) → (b && true) ≡ (b || false)
units true = refl
units false = refl

module _ (p : ℕ) (h : 0 < p) where
  some : {q : ℕ} → p ≤ q → 1 ≤ q / p
  some {q} l = (le-div_iff_mul-le {k = p} {x = 1} {y = q} h).1 (rw (one-mul p) l)

  low : (q : ℕ) (b : Bool) → ltb q p ≡ b → b ≡ eqb (q / p) 0
  low q true e = sym (eq-eqb (q / p) 0 (div-eq_of_lt (ltb-true q p e)))
  low q false e = sym (ne_eqb (q / p) 0 (λ z. absurd (omega (arith, z, some (ltb-false q p e)))))

  -- Q zero is below p, and Q not zero makes the sum so
  both : (g q : ℕ) → (ltb 0 (g + q) && ltb q p) ≡ ((eqb q 0 && ltb 0 g) || (ltb 0 q && ltb q p))
  both g zero = rw (lt-ltb 0 p h, add-zero g) (units (ltb 0 g))
  both g (suc q) = rw (lt-ltb 0 (g + suc q) (omega arith), lt-ltb 0 (suc q) (omega arith), ne_eqb (suc q) 0 (λ e. absurd (omega arith)))

-- the first four of n bits are zero below their place
first-four : (n q : ℕ) → 4 ≤ n → q < 2 ^ n → ltb q (2 ^ (n - 4)) ≡ eqb (field q (n - 4) 4) 0
unfolding field
first-four n q l h =
    let e : 4 + (n - 4) ≡ n = omega arith in
    low (2 ^ (n - 4)) (pow_pos (n - 4)) q (ltb q (2 ^ (n - 4))) refl
    ∙ ap (λ (k : ℕ). eqb k 0) (sym (mod-eq_of_lt (shr_lt 4 (n - 4) (rw e h))))

-- a bit below Q makes the word not zero, and is a fault by itself
all-faults : (n last s e q : ℕ) (some : Bool) → 4 ≤ n → q < 2 ^ n → some ≡ ltb 0 (last + (s + e + q))
    → (some && (last_bit last || ltb q (2 ^ (n - 4)))) ≡ (last_bit last || (not_true_zero s e q || not_justified n q))
unfolding last_bit not_true_zero not_justified
all-faults n zero s e q some l h t =
    rw (t, zero-add (s + e + q), ← first-four n q l h) (both (2 ^ (n - 4)) (pow_pos (n - 4)) (s + e) q)
all-faults n (suc last) s e q some l h t = rw (t, lt-ltb 0 (suc last) (omega arith), lt-ltb 0 (suc last + (s + e + q)) (omega arith))

pub returns-in-OnesComplement : goal.returns-in-OnesComplement
unfolding off_rule
returns-in-OnesComplement c = rw (c.in-OnesComplement.is, c.last_bit.ensures, c.negative_zero.ensures)

pub returns-in-SignMagnitude : goal.returns-in-SignMagnitude
unfolding off_rule
returns-in-SignMagnitude c = rw (c.in-SignMagnitude.is, c.last_bit-in-SignMagnitude.ensures, c.all_ones.ensures)

pub returns-in-Justified : goal.returns-in-Justified
unfolding off_rule
returns-in-Justified c =
    let a = c.args in
    let f = c.requires in
    rw c.in-Justified.is (c.justified_off.ensures ∙ all-faults a.n a.last a.s a.e a.q a.some f.0 f.5 f.6)
