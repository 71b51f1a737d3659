-- Groups of 0015: the value of word j of group g.
-- Assumes nothing.
use Prim.Native.Nat.{ℕ, ◌+◌, ◌-◌, ◌*◌, ◌/◌, ◌%◌, ◌^◌, ◌<◌}
use mathlib.Core.Path.{◌≡◌}
use mathlib.Core.List.{List}
use native.Mathlib.Omega.{arith}
use Rattle.basis.specs.Digits.{written, byte_in}
use Rattle.basis.specs.Fields.{field}
use Rattle.words.specs.Words.{value_of}
use Rattle.runs.specs.Words.{exponent_of, group_exponent, group_word, grouped_value}

pub group_value : (bs : List ℕ) (g j : ℕ) → j < 4
    → value_of 0x0015 (written 256 (byte_in bs) (10 * g) 2 / 2 ^ (12 - 4 * j) % 16) (written 256 (byte_in bs) (10 * g + 2 + 2 * j) 2) ≡ grouped_value 0x0015 bs (4 * g + j)
unfolding grouped_value group_exponent group_word exponent_of field
group_value bs g j h =
    let e : (4 * g + j) / 4 ≡ g = omega arith in
    let r : (4 * g + j) % 4 ≡ j = omega arith in
    rw (e, r)
