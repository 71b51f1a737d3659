-- Numbers of one, two and four bytes.
-- Assumes nothing.
use Prim.Native.Nat.{ℕ, ◌+◌, ◌*◌, ◌≤◌, ◌<◌}
use mathlib.Core.Path.{◌≡◌}
use mathlib.Core.List.{List}
use native.Mathlib.Nat.{add-zero}
use native.Mathlib.Omega.{arith}
use lib.ListN.{length}
use borrow.Author.Tests.{le-leb, lt-leb}
use Rattle.basis.specs.Choice.{pick}
use Rattle.basis.specs.Digits.{written, byte_in}
use Rattle.runs.specs.Words.{four_at}

pub written_one : (d : ℕ → ℕ) (i : ℕ) → written 256 d i 1 ≡ d i
unfolding written
written_one d i = rw add-zero (omega arith)

pub written_two : (d : ℕ → ℕ) (i : ℕ) → written 256 d i 2 ≡ d i * 256 + d (i + 1)
unfolding written
written_two d i = rw add-zero (omega arith)

pub written_four : (d : ℕ → ℕ) (i : ℕ) → written 256 d i 4 ≡ d i * 16777216 + d (i + 1) * 65536 + d (i + 2) * 256 + d (i + 3)
unfolding written
written_four d i = rw add-zero (omega arith)

-- four bytes of some, where they are there and where not
pub four_there : (bs : List ℕ) (i : ℕ) → i + 4 ≤ length bs → four_at bs i ≡ written 256 (byte_in bs) i 4
unfolding four_at pick
four_there bs i h = rw (le-leb (i + 4) (length bs) h)

pub four_cut : (bs : List ℕ) (i : ℕ) → length bs < i + 4 → four_at bs i ≡ 0
unfolding four_at pick
four_cut bs i h = rw (lt-leb (i + 4) (length bs) h)
