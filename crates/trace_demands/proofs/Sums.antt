-- Sums over things that stand in groups, one group after another.
-- Assumes nothing.
use Prim.Native.Nat.{ℕ, zero, suc, ◌+◌, ◌*◌, ◌<◌}
use mathlib.Core.Path.{◌≡◌, refl, sym, ap, ◌∙◌}
use native.Mathlib.Nat.{add-zero, zero-add, zero-mul, add-mul, suc-mul}
use native.Mathlib.Omega.{arith}
use lib.Dec.{eqb}
use borrow.Author.Tests.{ne_eqb}
use Rattle.basis.specs.Choice.{pick}
use Rattle.basis.specs.Upto.{upto, sum_upto}
use Rattle.trace_agree.proofs.Sums.{upto_below}

-- the first m, then n more
sum_split : (f : ℕ → ℕ) (m n : ℕ) → sum_upto f (m + n) ≡ sum_upto f m + sum_upto (λ (j : ℕ). f (m + j)) n
unfolding upto
sum_split f m zero = rw (add-zero m) (sym (add-zero (sum_upto f m)))
sum_split f m (suc n) =
    let e : m + suc n ≡ suc (m + n) = omega arith in
    rw e (omega (arith, sum_split f m n))

-- group m has f m, of which number j gives h m j
pub regroup : (f H : ℕ → ℕ) (h : ℕ → ℕ → ℕ) (n : ℕ) → ((m j : ℕ) → m < n → j < f m → H (sum_upto f m + j) ≡ h m j) → sum_upto H (sum_upto f n) ≡ sum_upto (λ (m : ℕ). sum_upto (h m) (f m)) n
unfolding upto
regroup f H h zero e = refl
regroup f H h (suc n) e =
    let a : sum_upto (λ (j : ℕ). H (sum_upto f n + j)) (f n) ≡ sum_upto (h n) (f n) = upto_below ◌+◌ 0 (λ (j : ℕ). H (sum_upto f n + j)) (h n) (f n) (λ j l. e n j (omega arith) l) in
    let r = regroup f H h n (λ m j l u. e m j (omega arith) u) in
    sum_split H (sum_upto f n) (f n) ∙ omega (arith, a, r)

pub sum_same : (x n : ℕ) → sum_upto (λ (k : ℕ). x) n ≡ n * x
unfolding upto
sum_same x zero = sym (zero-mul x)
sum_same x (suc n) = omega (arith, sum_same x n, suc-mul n x)

pub sum_times : (f : ℕ → ℕ) (x n : ℕ) → sum_upto (λ (k : ℕ). f k * x) n ≡ sum_upto f n * x
unfolding upto
sum_times f x zero = sym (zero-mul x)
sum_times f x (suc n) = omega (arith, sum_times f x n, add-mul (sum_upto f n) (f n) x)

-- where nothing is summed, no multiple is
pub sum_none : (f g : ℕ → ℕ) (n : ℕ) → sum_upto f n ≡ 0 → sum_upto (λ (k : ℕ). f k * g k) n ≡ 0
unfolding upto
sum_none f g zero e = refl
sum_none f g (suc n) e =
    let a : sum_upto f n ≡ 0 = omega arith in
    let c : f n ≡ 0 = omega arith in
    let d : f n * g n ≡ 0 = ap (λ (y : ℕ). y * g n) c ∙ zero-mul (g n) in
    omega (arith, sum_none f g n a, d)

-- of a group only its first counts
pub first_alone : (x n : ℕ) → 0 < n → sum_upto (λ (j : ℕ). pick (eqb j 0) x 0) n ≡ x
unfolding upto pick
first_alone x zero l = absurd (omega arith)
first_alone x (suc n) l = go n
  where
    go : (n : ℕ) → sum_upto (λ (j : ℕ). pick (eqb j 0) x 0) (suc n) ≡ x
    go zero = zero-add x
    go (suc n) =
        let e : pick (eqb (suc n) 0) x 0 ≡ 0 = rw (ne_eqb (suc n) 0 (λ z. omega (arith, z))) in
        omega (arith, go n, e)
