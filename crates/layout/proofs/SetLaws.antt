-- Sets of f 0, f 1, .. samples one after another: `set_at` is the one set that holds sample k.
-- Assumes nothing.
use Prim.Native.Nat.{ℕ, zero, suc, ◌+◌, ◌*◌, ◌-◌, ◌/◌, ◌%◌, ◌≤◌, ◌<◌, zero-le}
use mathlib.Core.Path.{◌≡◌, refl, sym, ◌∙◌}
use mathlib.Core.Bool.{Bool, true, false}
use mathlib.Core.Logic.{◌⊎◌, inl, inr, ⊎_elim}
use native.Mathlib.Nat.{eq-or-lt_of_le, eq-zero-or-pos, add-zero, zero-mul, mul-le-mul_right, add-mul, mul_comm, mul-add-mod_self_right, mul-add-div_right, mod-eq_of_lt, div-eq_of_lt}
use native.Mathlib.Omega.{arith}
use lib.Dec.{leb, ltb}
use mir.Val.{bool_byte}
use borrow.Author.Tests.{le-leb, lt-leb, ltb-true, ltb-false}
use Rattle.basis.specs.Choice.{pick}
use Rattle.basis.specs.Upto.{upto, sum_upto}
use Rattle.basis.proofs.Uptos.{upto_more, sum_grows}
use Rattle.layout.specs.Indexes.{passed, set_at}

-- one number is below another, or not
split : (m n : ℕ) → (m < n) ⊎ (n ≤ m)
split m n = by_test (ltb m n) refl
  where
    by_test : (t : Bool) → ltb m n ≡ t → (m < n) ⊎ (n ≤ m)
    by_test true e = inl (ltb-true m n e)
    by_test false e = inr (ltb-false m n e)

pub sum_more : (f : ℕ → ℕ) (i : ℕ) → sum_upto f (i + 1) ≡ sum_upto f i + f i
sum_more f i = upto_more ◌+◌ 0 f i

pub set_more : (f : ℕ → ℕ) (k i : ℕ) → set_at f k (i + 1) ≡ set_at f k i + pick (leb (sum_upto f (i + 1)) k) 1 0
unfolding set_at passed
set_more f k i = sum_more (passed f k) i

-- what a test counts, as a byte
pub byte_is : (t : Bool) → bool_byte t ≡ pick t 1 0
unfolding pick
byte_is true = refl
byte_is false = refl

pub byte_small : (t : Bool) {n : ℕ} → n ≡ bool_byte t → n ≤ 1
byte_small true e = omega arith
byte_small false e = omega arith

-- the set m of k among n sets begins at k or before, and where m is below n its end is past k
pub record Holds (f : ℕ → ℕ) (k n m : ℕ) : Type 0 where
  pub inside : m ≤ n
  pub begins : sum_upto f m ≤ k
  pub ends : m < n → k < sum_upto f (m + 1)

more : (f : ℕ → ℕ) (k n m : ℕ) → Holds f k n m → Holds f k (suc n) (m + passed f k n)
unfolding passed pick
more f k n m h =
    ⊎_elim
    (λ (l : k < sum_upto f (n + 1)).
    rw (lt-leb _ _ l, add-zero)
    (record {
      inside = omega (arith, h.inside);
      begins = h.begins;
      ends = λ (p : m < suc n).
          ⊎_elim (λ (e : m ≡ n). rw e l) (λ (q : m < n). h.ends q) (eq-or-lt_of_le (let w : m ≤ n = omega arith in w));
    }))
    (λ (g : sum_upto f (n + 1) ≤ k).
    let e : m ≡ n = ⊎_elim (λ (e : m ≡ n). e) (λ (q : m < n). absurd (omega (arith, h.ends q, sum_grows f (m + 1) (n + 1) (omega arith)))) (eq-or-lt_of_le h.inside) in
    rw (le-leb _ _ g, e)
    (record { inside = omega arith; begins = g; ends = λ (p : n + 1 < suc n). absurd (omega arith) }))
    (split k (sum_upto f (n + 1)))

pub set_at_lem : (f : ℕ → ℕ) (k n : ℕ) → Holds f k n (set_at f k n)
unfolding set_at upto
set_at_lem f k zero = record { inside = omega arith; begins = zero-le; ends = λ (h : 0 < 0). absurd (omega arith) }
set_at_lem f k (suc n) = more f k n (set_at f k n) (set_at_lem f k n)

-- and it is the only one
set_is : (f : ℕ → ℕ) (k n m : ℕ) → m < n → sum_upto f m ≤ k → k < sum_upto f (m + 1) → set_at f k n ≡ m
set_is f k n m h p q =
    let a = set_at_lem f k n in
    let x = set_at f k n in
    ⊎_elim (λ (l : x < m). absurd (omega (arith, a.ends (omega arith), sum_grows f (x + 1) m (omega arith))))
    (λ (g : m ≤ x).
    ⊎_elim (λ (e : m ≡ x). sym e) (λ (l : m < x). absurd (omega (arith, a.begins, sum_grows f (m + 1) x (omega arith)))) (eq-or-lt_of_le g))
    (split x m)

-- set m among n: its samples are those from sum_upto f m on
module _ (f : ℕ → ℕ) (n : ℕ) where
  pub set_of_sample : (m j : ℕ) → m < n → j < f m → set_at f (sum_upto f m + j) n ≡ m
  set_of_sample m j h g = set_is f (sum_upto f m + j) n m h (omega arith) (omega (arith, sum_more f m))

  pub in_total : (m j : ℕ) → m < n → j < f m → sum_upto f m + j < sum_upto f n
  in_total m j h g = omega (arith, sum_more f m, sum_grows f (m + 1) n (omega arith))

  pub set_below : (k : ℕ) → k < sum_upto f n → set_at f k n < n
  set_below k h =
      let a = set_at_lem f k n in
      ⊎_elim (λ (e : set_at f k n ≡ n). let z : sum_upto f n ≤ k = rw e at a.begins in absurd (omega arith)) (λ l. l) (eq-or-lt_of_le a.inside)

  pub rest_below : (k : ℕ) → k < sum_upto f n → k - sum_upto f (set_at f k n) < f (set_at f k n)
  rest_below k h = let a = set_at_lem f k n in omega (arith, a.begins, a.ends (set_below k h), sum_more f (set_at f k n))

-- in a set of n channels and p subscans: channel x (from 0) of subscan u
module _ (n p u x : ℕ) (hx : x < n) (hu : u < p) where
  pub in_set : u * n + x < n * p
  in_set = let e : (u + 1) * n ≤ p * n = mul-le-mul_right n (omega arith) in omega (arith, e, add-mul u 1 n, mul_comm p n)

  pub channel_is : (u * n + x) % n ≡ x
  channel_is = mul-add-mod_self_right u n x ∙ mod-eq_of_lt hx

  pub subscan_is : (u * n + x) / n ≡ u
  subscan_is = let z : 0 < n = omega arith in mul-add-div_right z u x ∙ rw (div-eq_of_lt hx) (add-zero u)

pub factor_pos : (a b j : ℕ) → j < a * b → 0 < a
factor_pos a b j h =
    ⊎_elim (λ (e : a ≡ 0). let z : j < 0 = rw (e, zero-mul) at h in absurd (omega arith)) (λ p. p) (eq-zero-or-pos a)
