-- The items of a file, each of bytes.
-- Assumes nothing.
use Prim.Native.Nat.{ℕ}
use mathlib.Core.List.{List, [], ◌∷◌, ◌++◌}
use Rattle.agree.specs.Calls.{Bytes}

-- all items are bytes
abbrev pub Items : List (List ℕ) → Type 0
Items [] = Unit {0}
Items (i ∷ is) = Bytes i × Items is

pub items_append : (xs ys : List (List ℕ)) → Items xs → Items ys → Items (xs ++ ys)
items_append [] ys p q = q
items_append (x ∷ xs) ys p q = (p.0, items_append xs ys p.1 q)
