-- Bytes taken from bytes are bytes.
-- Assumes nothing.
use Rattle.std.proofs.Common.{ℕ, zero, suc, ◌≤◌, Bool, true, false, List, [], ◌∷◌, ◌++◌, length, take, drop, suc-le-suc, zero-le, arith}
use Rattle.basis.proofs.Choices.{pick_both}
use Rattle.framing.specs.Image.{Reading, length_of, items_of, reading_of}
use Rattle.framing.specs.Cuts.{joined}
use Rattle.agree.specs.Calls.{Bytes}
use Rattle.files.proofs.Items.{Items}
use Rattle.lister.specs.Listed.{Portions}

pub bytes_append : (xs ys : List ℕ) → Bytes xs → Bytes ys → Bytes (xs ++ ys)
bytes_append [] ys p q = q
bytes_append (x ∷ xs) ys p q = (p.0, bytes_append xs ys p.1 q)

pub bytes_take : (n : ℕ) (xs : List ℕ) → Bytes xs → Bytes (take n xs)
bytes_take zero xs p = tt
bytes_take (suc n) [] p = tt
bytes_take (suc n) (x ∷ xs) p = (p.0, bytes_take n xs p.1)

pub bytes_drop : (n : ℕ) (xs : List ℕ) → Bytes xs → Bytes (drop n xs)
bytes_drop zero xs p = p
bytes_drop (suc n) [] p = tt
bytes_drop (suc n) (x ∷ xs) p = bytes_drop n xs p.1

pub bytes_joined : (most : ℕ) (ps : List (List ℕ)) → Portions most ps → Bytes (joined ps)
bytes_joined most [] k = tt
bytes_joined most (p ∷ ps) k = bytes_append p (joined ps) k.0.1 (bytes_joined most ps k.1)

-- an image of bytes has items of bytes
Whole : Reading → Type 0
Whole r = Items r.items

items_of_lem : (most : ℕ) (m : Bool) (bytes : List ℕ) → Bytes bytes → Whole (items_of most m bytes)
unfolding Whole
items_of_lem zero m bytes p = tt
items_of_lem (suc most) m bytes p =
    pick_both Whole _ tt
    (pick_both Whole _
    (tt, pick_both Whole m tt (items_of_lem most true (drop 4 bytes) (bytes_drop 4 bytes p)))
    (pick_both Whole _
    (bytes_take (length_of bytes) (drop 4 bytes) (bytes_drop 4 bytes p), items_of_lem most false (drop (length_of bytes) (drop 4 bytes)) (bytes_drop (length_of bytes) (drop 4 bytes) (bytes_drop 4 bytes p)))
    tt))

pub items_bytes : (image : List ℕ) → Bytes image → Items (reading_of image).items
unfolding Whole
items_bytes [] p = tt
items_bytes (v ∷ rest) p = pick_both Whole _ (items_of_lem (length rest) false rest p.1) tt

-- and no more items than bytes
Few : ℕ → Reading → Type 0
Few most r = length r.items ≤ most

few_of : (most : ℕ) (m : Bool) (bytes : List ℕ) → Few most (items_of most m bytes)
unfolding Few
few_of zero m bytes = zero-le
few_of (suc most) m bytes =
    pick_both (Few (suc most)) _ zero-le
    (pick_both (Few (suc most)) _
    (pick_both (λ (r : Reading). suc (length r.items) ≤ suc most) m (suc-le-suc zero-le) (suc-le-suc (few_of most true (drop 4 bytes))))
    (pick_both (Few (suc most)) _ (suc-le-suc (few_of most false (drop (length_of bytes) (drop 4 bytes)))) zero-le))

pub items_few : (image : List ℕ) → length (reading_of image).items ≤ length image
unfolding Few
items_few [] = zero-le
items_few (v ∷ rest) = let h = few_of (length rest) false rest in pick_both (Few (suc (length rest))) _ (omega (arith, h)) zero-le
