-- Lines and text that were put into a buffer.
-- Assumes nothing.
use Prim.Native.Nat.{ℕ, ◌+◌, ◌≤◌}
use mathlib.Core.Path.{◌≡◌, refl, sym}
use mathlib.Core.Bool.{Bool, true, false}
use mathlib.Core.List.{List, []}
use native.Mathlib.Nat.{add-zero}
use native.Mathlib.Omega.{arith}
use lib.Dec.{ltb}
use lib.ListN.{length, take, drop}
use lib.Seq.{sets, sets-eq, take-append_seam}
use Rattle.basis.specs.Choice.{pick}
use Rattle.listing.specs.Lent.{line_room, line_in, line_end}

-- no line: nothing is put
pub none : (old : List ℕ) (at : ℕ) → (at ≡ line_end old at []) × (old ≡ line_in old at [])
unfolding pick
none old at = go (ltb (length old) (at + line_room))
  where
    go : (t : Bool) → (at ≡ pick t at (at + 0)) × (old ≡ pick t old old)
    go true = (refl, refl)
    go false = (sym (add-zero at), refl)

-- a text that stands at the front
pub front : (text old : List ℕ) → length text ≤ length old → take (length text) (sets old 0 text) ≡ text
front text old h = rw (sets-eq text old 0 (omega arith)) (take-append_seam text (drop (0 + length text) old))
