-- Numbers of two and of three digits to any base, and the greatest digit pair.
-- Assumes nothing.
use Prim.Native.Nat.{ℕ, ◌+◌, ◌-◌, ◌*◌, ◌<◌}
use mathlib.Core.Path.{◌≡◌}
use mathlib.Core.List.{List}
use native.Mathlib.Nat.{zero-mul, zero-add, add-zero}
use native.Mathlib.Omega.{arith}
use Rattle.basis.specs.Digits.{written}
use Rattle.block.specs.Bytes.{pair_of, byte, pair, decimal, binary}

module _ (base : ℕ) (digit : ℕ → ℕ) (n : ℕ) where
  two : written base digit n (n + 1 + 1 - n) ≡ digit n * base + digit (n + 1)
  unfolding written
  two = let e : n + 1 + 1 - n ≡ 2 = omega arith in rw (e, zero-mul, zero-add, add-zero)

  three : written base digit n (n + 2 + 1 - n) ≡ written base digit n (n + 1 + 1 - n) * base + digit (n + 2)
  unfolding written
  three = let e : n + 1 + 1 - n ≡ 2 = omega arith in let f : n + 2 + 1 - n ≡ 3 = omega arith in rw (e, f)

pub word_is : (b : List ℕ) (n : ℕ) → byte b n * 256 + byte b (n + 1) ≡ binary b n (n + 1)
unfolding binary
word_is b n = rw two

pub two_is : (b : List ℕ) (n : ℕ) → pair b n * 100 + pair b (n + 1) ≡ decimal b n (n + 1)
unfolding decimal
two_is b n = rw two

pub three_is : (b : List ℕ) (n : ℕ) → decimal b n (n + 1) * 100 + pair b (n + 2) ≡ decimal b n (n + 2)
unfolding decimal
three_is b n = rw three

pub pair_small : {x : ℕ} → x < 256 → pair_of x < 166
unfolding pair_of
pair_small h = omega arith
