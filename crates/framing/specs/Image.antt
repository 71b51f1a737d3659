-- "The program `reel` reads a reel image": what a whole image holds, read by its length words.
-- Assumes nothing.
use Rattle.std.specs.Prelude.{ℕ, zero, suc, Bool, true, false, List, [], ◌∷◌, leb, ltb, eqb, length, take, drop}
use Rattle.basis.specs.Choice.{pick}
use Rattle.basis.specs.Digits.{written, byte_in}
use Rattle.framing.specs.declared.Ending.{Ending}
use Rattle.framing.specs.declared.Ending.TheVariants.{Ok, Cut, Version}

-- the items in order, each its bytes, a mark being an item without bytes; the bytes there are of an item that the image cuts off; how the reel ends
pub record Reading : Type 0 where
  pub items : List (List ℕ)
  pub tail : List ℕ
  pub ending : Ending

-- no item more: the bytes left over, and how the reel ends
abbrev pub ends : List ℕ → Ending → Reading
ends bytes e = record { items = []; tail = bytes; ending = e }

-- an item, then the rest
abbrev pub then : List ℕ → Reading → Reading
then item r = record { items = item ∷ r.items; tail = r.tail; ending = r.ending }

-- "a four-byte big-endian length", at the start of the bytes
unfoldable pub length_of : List ℕ → ℕ
length_of bytes = written 256 (byte_in bytes) 0 4

-- "Length 0 is a file mark; two in a row end the reel, and later bytes are ignored": what a length n says of the bytes after it,
-- where `marked` says whether a mark stands right before it, and `later` is what follows after a mark or after none
abbrev pub by_length : (Bool → List ℕ → Reading) → Bool → ℕ → List ℕ → Reading
by_length later marked n bytes =
    pick (eqb n 0) (then [] (pick marked (ends [] Ok) (later true bytes)))
    (pick (leb n (length bytes)) (then (take n bytes) (later false (drop n bytes))) (ends bytes Cut))

-- "items, each a four-byte big-endian length and that many bytes": at most `most` of them
abbrev pub items_of : ℕ → Bool → List ℕ → Reading
items_of zero marked bytes = ends [] Cut
items_of (suc most) marked bytes =
    pick (ltb (length bytes) 4) (ends [] Cut) (by_length (items_of most) marked (length_of bytes) (drop 4 bytes))

-- "a version byte 1, then items"; "`reel cut` if input ends early, empty input included; or `reel version` alone if the first byte is not 1"
abbrev pub reading_of : List ℕ → Reading
reading_of [] = ends [] Cut
reading_of (v ∷ rest) = pick (eqb v 1) (items_of (length rest) false rest) (ends [] Version)
