-- The fewest digits that hold a number are as many as `places` counts.
-- Assumes nothing.
use Prim.Native.Nat.{ℕ, zero, suc, ◌-◌, ◌*◌, ◌/◌, ◌^◌, ◌≤◌, ◌<◌}
use mathlib.Core.Path.{◌≡◌, ap}
use native.Mathlib.Nat.{pow-suc, one-le-pow, pow-le-pow_right, le-div_iff_mul-le, div-lt_iff_lt-mul, le_of_suc-le-suc, lt_of_not-le}
use native.Mathlib.Omega.{arith}
use borrow.Author.Tests.{lt-ltb, le-ltb}
use Rattle.basis.specs.Choice.{pick}
use Rattle.io.specs.Digits.{last_digits, IsDigitCount}
use Rattle.listing.specs.Lines.{places, decimal_of}

not_more : (b least n k most : ℕ) → 0 < b → IsDigitCount b least n k → least ≤ most → n < b ^ most → most < k → ⊥
not_more b least n k most h fewest within holds over =
    let p : b ^ (k - 1) ≤ n = fewest.2 (omega arith) in
    let q : b ^ most ≤ b ^ (k - 1) = pow-le-pow_right h (omega arith) in
    omega arith

-- where `most` digits hold n, the fewest are no more
at_most : (b least n k most : ℕ) → 0 < b → IsDigitCount b least n k → least ≤ most → n < b ^ most → k ≤ most
at_most b least n k most h fewest within holds = le_of_suc-le-suc (lt_of_not-le (not_more b least n k most h fewest within holds))

pub fewest_places : (most n k : ℕ) → k ≤ suc most → IsDigitCount 10 1 n k → k ≡ places most n
unfolding pick
fewest_places zero n k h f = let a : 1 ≤ k = f.0 in omega arith
fewest_places (suc most) n zero h f = let a : 1 ≤ 0 = f.0 in absurd (omega arith)
fewest_places (suc most) n (suc zero) h f =
    let a : n < 10 = f.1 in
    rw (lt-ltb n 10 a)
fewest_places (suc most) n (suc (suc j)) h f =
    let e : suc (suc j) - 1 ≡ suc j = omega arith in
    let g : suc j - 1 ≡ j = omega arith in
    let lower : 10 ^ j * 10 ≤ n = rw (e, pow-suc 10 j) at (f.2 (omega arith)) in
    let upper : n < 10 ^ suc j * 10 = rw (pow-suc 10 (suc j)) at f.1 in
    let one : 1 ≤ 10 ^ j = one-le-pow j 10 (omega arith) in
    let big : 10 ≤ n = omega arith in
    let under : n / 10 < 10 ^ suc j = (div-lt_iff_lt-mul {k = 10} (omega arith)).1 upper in
    let above : 10 ^ j ≤ n / 10 = (le-div_iff_mul-le {k = 10} (omega arith)).1 lower in
    rw (le-ltb n 10 big)
    (ap suc
    (fewest_places most (n / 10) (suc j) (omega arith)
    (omega arith, under, λ _. rw g above)))

pub at_most_20 : (n k : ℕ) → n < 2 ^ 64 → IsDigitCount 10 1 n k → k ≤ 20
at_most_20 n k h f = at_most 10 1 n k 20 (omega arith) f (omega arith) (omega arith)

pub decimal_is : (n k : ℕ) → n < 2 ^ 64 → IsDigitCount 10 1 n k → last_digits 10 k n ≡ decimal_of n
unfolding decimal_of
decimal_is n k h f = ap (λ (p : ℕ). last_digits 10 p n) (fewest_places 19 n k (at_most_20 n k h f) f)
