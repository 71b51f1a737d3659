-- The library's number of some bytes, the greatest first, is what they write.
-- Assumes nothing.
use Rattle.std.proofs.Common.{ℕ, ◌≡◌, List, arith, w16, w32}
use Rattle.std.specs.Int.{from_be_bytes}
use Rattle.basis.specs.Digits.{written, byte_in}

pub two : (bs : List ℕ) → from_be_bytes w16 bs ≡ written 256 (byte_in bs) 0 2
unfolding written
two bs = omega arith

pub four : (bs : List ℕ) → from_be_bytes w32 bs ≡ written 256 (byte_in bs) 0 4
unfolding written
four bs = omega arith
