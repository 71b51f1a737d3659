-- A walk by `next` over a portion is the byte by byte reader's, wherever the portion begins and ends.
-- Assumes nothing.
use Prim.Native.Nat.{ℕ, zero, suc, ◌+◌, ◌-◌, ◌≤◌, ◌<◌}
use mathlib.Core.Path.{◌≡◌, refl, sym, ap, ◌∙◌}
use mathlib.Core.Bool.{Bool, true, false}
use mathlib.Core.List.{List, [], ◌∷◌, ◌++◌, map, append-nil}
use native.Mathlib.Omega.{arith}
use native.Mathlib.Numerals.{add-one}
use lib.Dec.{leb, ltb, eqb}
use lib.ListN.{length, take, drop, get_or, length-take, length-drop, take-append-drop}
use lib.Seq.{drop-cons, drop-length, drop-drop, take_all}
use borrow.Author.Tests.{ltb-true, ltb-false, leb-true, leb-false, ne_eqb}
use Rattle.basis.specs.Choice.{pick}
use Rattle.framing.specs.declared.Frame.{Frame}
use Rattle.framing.specs.declared.Frame.TheVariants.{Start, Length, Second, Third, Fourth, Item, Over, Wrong}
use Rattle.framing.specs.declared.Step.{Step}
use Rattle.framing.specs.declared.Met.TheVariants.{Part, Whole}
use Rattle.framing.specs.Image.{length_of}
use Rattle.framing.specs.Next.{meet_of, passed_to, after_length}
use Rattle.framing.specs.Cuts.{Event, byte, close, mark, Walk, after, walk, walks, joined, tells, part}
use Rattle.framing.proofs.Bytewise.{sized, marks, feed, feed_append, feed_over, feed_wrong, feed_part, feed_whole}

-- a portion from place at on
abbrev on : ℕ → List ℕ → ℕ → Step → Walk
on k bytes at s = after (tells s.met (part at s.to bytes)) (walk k s.frame bytes s.to)

module _ (k : ℕ) (bytes : List ℕ) (at : ℕ) (here : at < length bytes)
    (next : (f : Frame) (to : ℕ) → at < to → to ≤ length bytes → walk k f bytes to ≡ feed f (drop to bytes)) where
  abbrev x : ℕ
  x = get_or bytes at 0

  pass : (f : Frame) → on k bytes at (passed_to f (at + 1)) ≡ feed f (drop (suc at) bytes)
  pass f = next f (at + 1) (omega arith) (omega arith) ∙ rw add-one

  length_read : (m : Bool) (n : ℕ) → on k bytes at (after_length m n (at + 1)) ≡ after (marks n) (feed (sized n m) (drop (suc at) bytes))
  unfolding pick
  length_read true zero = ap (after (mark ∷ [])) (pass Over)
  length_read false zero = ap (after (mark ∷ [])) (pass (Length true))
  length_read m (suc n) =
      let e : eqb (suc n) 0 ≡ false = ne_eqb (suc n) 0 (λ h. omega arith) in
      let f : suc n - 1 ≡ n = omega arith in
      rw (e, f) (pass (Item n))

  item : (n : ℕ) (t : Bool) → ltb n (length bytes - at) ≡ t
      → on k bytes at
      (pick t (record { frame = Length false; to = at + n + 1; met = Whole }) (record { frame = Item (n - (length bytes - at)); to = length bytes; met = Part }))
      ≡ feed (Item n) (drop at bytes)
  unfolding pick
  item n true e =
      let h : n < length bytes - at = ltb-true n (length bytes - at) e in
      let s : at + n + 1 - at ≡ suc n = omega arith in
      let l : length (take (suc n) (drop at bytes)) ≡ suc n = simp (length-take, length-drop) (omega arith) in
      let j : at + n + 1 ≡ at + suc n = omega arith in
      rw s
      (ap (after (map byte (take (suc n) (drop at bytes)) ++ (close ∷ []))) (next (Length false) (at + n + 1) (omega arith) (omega arith) ∙ ap (λ (i : ℕ). feed (Length false) (drop i bytes)) j ∙ ap (feed (Length false)) (sym (drop-drop (suc n) at bytes)))
      ∙ sym (feed_whole n (take (suc n) (drop at bytes)) (drop (suc n) (drop at bytes)) l)
      ∙ ap (feed (Item n)) (take-append-drop (suc n) (drop at bytes)))
  item n false e =
      let h : length bytes - at ≤ n = ltb-false n (length bytes - at) e in
      let l : length (drop at bytes) ≡ length bytes - at = length-drop at bytes in
      let a : take (length bytes - at) (drop at bytes) ≡ drop at bytes = take_all (length bytes - at) (drop at bytes) (omega arith) in
      rw a
      (ap (after (map byte (drop at bytes))) (next (Item (n - (length bytes - at))) (length bytes) (omega arith) (omega arith) ∙ rw drop-length)
      ∙ ap (λ (ts : List Event). record { frame = Item (n - (length bytes - at)); told = ts }) (append-nil (map byte (drop at bytes)))
      ∙ rw (← l) (sym (feed_part n (drop at bytes) (omega arith))))

  here_cons : drop at bytes ≡ x ∷ drop (suc at) bytes
  here_cons = drop-cons bytes at 0 here

  by_byte : (f : Frame) (w : Walk) → w ≡ feed f (x ∷ drop (suc at) bytes) → w ≡ feed f (drop at bytes)
  by_byte f w e = rw here_cons e

  any : (f : Frame) → on k bytes at (meet_of f x at (length bytes)) ≡ feed f (drop at bytes)
  any Start = by_byte Start _ (pass (pick (eqb x 1) (Length false) Wrong))
  any (Length m) = by_byte (Length m) _ (pass (Second m x))
  any (Second m a) = by_byte (Second m a) _ (pass (Third m a x))
  any (Third m a b) = by_byte (Third m a b) _ (pass (Fourth m a b x))
  any (Fourth m a b c) = by_byte (Fourth m a b c) _ (length_read m (length_of (a ∷ b ∷ c ∷ x ∷ [])))
  any (Item n) = item n (ltb n (length bytes - at)) refl
  any Over = next Over (length bytes) here (omega arith) ∙ rw drop-length (sym (feed_over (drop at bytes)))
  any Wrong = next Wrong (length bytes) here (omega arith) ∙ rw drop-length (sym (feed_wrong (drop at bytes)))

walk_feed : (k : ℕ) (f : Frame) (bytes : List ℕ) (at : ℕ) → at ≤ length bytes → length bytes ≤ at + k → walk k f bytes at ≡ feed f (drop at bytes)
unfolding pick
walk_feed zero f bytes at h l = let e : at ≡ length bytes = omega arith in rw (e, drop-length)
walk_feed (suc k) f bytes at h l = go (λ f to p q. walk_feed k f bytes to p q) (leb (length bytes) at) refl
  where
    go : ((f : Frame) (to : ℕ) → to ≤ length bytes → length bytes ≤ to + k → walk k f bytes to ≡ feed f (drop to bytes))
        → (t : Bool) → leb (length bytes) at ≡ t
        → on k bytes at (pick t (passed_to f at) (meet_of f (get_or bytes at 0) at (length bytes))) ≡ feed f (drop at bytes)
    go more true e = let g : length bytes ≤ at = leb-true (length bytes) at e in more f at h (omega arith)
    go more false e =
        let g : at < length bytes = leb-false (length bytes) at e in
        any k bytes at g (λ f to p q. more f to q (omega arith)) f

pub walks_feed : (f : Frame) (ps : List (List ℕ)) → walks f ps ≡ feed f (joined ps)
walks_feed f [] = refl
walks_feed f (p ∷ ps) =
    let e : walk (length p) f p 0 ≡ feed f p = walk_feed (length p) f p 0 (omega arith) (omega arith) in
    rw e (ap (after (feed f p).told) (walks_feed (feed f p).frame ps) ∙ sym (feed_append f p (joined ps)))
