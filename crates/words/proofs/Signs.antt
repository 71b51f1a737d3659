-- A number less p, as two's complement has it, at any width: p is half of what the number is below.
-- Assumes nothing.
use Prim.Native.Nat.{ℕ, zero, suc, ◌-◌, ◌<◌, ◌≤◌}
use mathlib.Core.Path.{◌≡◌, ap}
use native.Mathlib.Omega.{arith}
use lib.IntN.{pos, negsuc, ◌-ℤ◌}
use borrow.Author.Tests.{le-ltb, lt-ltb}

-- not negative from p on
pub from_half : (u p : ℕ) → p ≤ u → pos u -ℤ pos p ≡ pos (u - p)
from_half u zero h = ap pos (omega arith)
from_half u (suc p) h = rw (le-ltb u (suc p) h)

-- below p negative, and its complement is p - 1 less the number
pub complement : (u p : ℕ) → u < p → negsuc 0 -ℤ (pos u -ℤ pos p) ≡ pos (p - 1 - u)
complement u zero h = absurd (omega arith)
complement u (suc p) h = rw (lt-ltb u (suc p) h, le-ltb (suc (suc p - suc u)) 1 (omega arith)) (ap pos (omega arith))
