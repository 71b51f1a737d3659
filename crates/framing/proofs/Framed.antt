-- However an image is cut, a walk by `next` is told what the whole image holds, and ends as it ends.
-- Assumes nothing.
use Prim.Native.Nat.{ℕ, zero, suc, ◌≤◌, ◌<◌}
use mathlib.Core.Path.{◌≡◌, refl, sym, ap, ◌∙◌}
use mathlib.Core.Bool.{Bool, true, false}
use mathlib.Core.List.{List, [], ◌∷◌, ◌++◌, map, append_assoc}
use native.Mathlib.Omega.{arith}
use lib.Dec.{leb, eqb}
use lib.ListN.{length, take, drop, length-take, length-drop, take-append-drop}
use borrow.Author.Tests.{leb-true, leb-false, le-ltb, ne_eqb}
use Rattle.basis.specs.Choice.{pick}
use Rattle.basis.specs.Digits.{written}
use Rattle.framing.specs.declared.Frame.TheVariants.{Start, Length, Item, Wrong}
use Rattle.framing.specs.declared.Ending.TheVariants.{Cut, Version}
use Rattle.framing.specs.Image.{Reading, ends, then, length_of, by_length, items_of, reading_of}
use Rattle.framing.specs.Cuts.{Event, byte, close, Walk, after, joined, item_told, items_told, ToldWhole, Framed}
use Rattle.framing.proofs.Bytewise.{sized, marks, feed, feed_over, feed_wrong, feed_part, feed_whole}
use Rattle.framing.proofs.Portions.{walks_feed}

agrees_then : (item : List ℕ) {r : Reading} {w : Walk} → ToldWhole r w → ToldWhole (then item r) (after (item_told item) w)
agrees_then item {r} {w} a = record {
  told = ap (λ (l : List Event). item_told item ++ l) a.told ∙ sym (append_assoc (item_told item) (items_told r.items) (map byte r.tail));
  ending = a.ending;
}

item_told_some : (n : ℕ) (xs : List ℕ) → length xs ≡ suc n → item_told xs ≡ map byte xs ++ (close ∷ [])
item_told_some n [] h = absurd (omega arith)
item_told_some n (x ∷ xs) h = refl

module _ (most : ℕ) (more : (m : Bool) (bytes : List ℕ) → length bytes ≤ most → ToldWhole (items_of most m bytes) (feed (Length m) bytes)) (rest : List ℕ) (short : length rest ≤ most) where
  some : (n : ℕ) (t : Bool) → leb (suc n) (length rest) ≡ t
      → ToldWhole (pick t (then (take (suc n) rest) (items_of most false (drop (suc n) rest))) (ends rest Cut)) (feed (Item n) rest)
  unfolding pick
  some n true e =
      let h : suc n ≤ length rest = leb-true (suc n) (length rest) e in
      let l : length (take (suc n) rest) ≡ suc n = simp length-take (omega arith) in
      let d : length (drop (suc n) rest) ≤ most = simp length-drop (omega arith) in
      let w : feed (Item n) rest ≡ after (item_told (take (suc n) rest)) (feed (Length false) (drop (suc n) rest)) =
      ap (feed (Item n)) (sym (take-append-drop (suc n) rest)) ∙ feed_whole n (take (suc n) rest) (drop (suc n) rest) l ∙ rw (item_told_some n (take (suc n) rest) l) in
      rw w (agrees_then (take (suc n) rest) (more false (drop (suc n) rest) d))
  some n false e =
      let h : length rest < suc n = leb-false (suc n) (length rest) e in
      rw (feed_part n rest (omega arith)) (record { told = refl; ending = refl })

  read : (m : Bool) (n : ℕ) → ToldWhole (by_length (items_of most) m n rest) (after (marks n) (feed (sized n m) rest))
  unfolding pick
  read true zero = rw (feed_over rest) (record { told = refl; ending = refl })
  read false zero = agrees_then [] (more true rest short)
  read m (suc n) =
      let e : eqb (suc n) 0 ≡ false = ne_eqb (suc n) 0 (λ h. omega arith) in
      rw e (some n (leb (suc n) (length rest)) refl)

reads : (most : ℕ) (m : Bool) (bytes : List ℕ) → length bytes ≤ most → ToldWhole (items_of most m bytes) (feed (Length m) bytes)
unfolding pick length_of written
reads zero m [] h = record { told = refl; ending = refl }
reads zero m (a ∷ bytes) h = absurd (omega arith)
reads (suc most) m [] h = record { told = refl; ending = refl }
reads (suc most) m (a ∷ []) h = record { told = refl; ending = refl }
reads (suc most) m (a ∷ b ∷ []) h = record { told = refl; ending = refl }
reads (suc most) m (a ∷ b ∷ c ∷ []) h = record { told = refl; ending = refl }
reads (suc most) m (a ∷ b ∷ c ∷ d ∷ rest) h =
    rw (le-ltb (length (a ∷ b ∷ c ∷ d ∷ rest)) 4 (omega arith))
    (read most (reads most) rest (omega arith) m (length_of (a ∷ b ∷ c ∷ d ∷ [])))

whole : (image : List ℕ) → ToldWhole (reading_of image) (feed Start image)
unfolding pick
whole [] = record { told = refl; ending = refl }
whole (v ∷ rest) = go (eqb v 1)
  where
    go : (t : Bool) → ToldWhole (pick t (items_of (length rest) false rest) (ends [] Version)) (feed (pick t (Length false) Wrong) rest)
    go true = reads (length rest) false rest (omega arith)
    go false = rw (feed_wrong rest) (record { told = refl; ending = refl })

-- for every image, cut anywhere: portion after portion is byte after byte, and the bytes are those of the whole image
pub framed : Framed
framed portions = rw (walks_feed Start portions) (whole (joined portions))
