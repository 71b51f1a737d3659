-- Pieces of text put one after another into a buffer.
-- Assumes nothing.
use Rattle.std.proofs.Common.{ℕ, suc, ◌+◌, ◌-◌, ◌≤◌, ◌≡◌, ap, ◌∙◌, List, [], ◌∷◌, ◌++◌, length, length-append, drop-drop, append_assoc, add-zero, arith}
use borrow.Rule.Slice.PartMut.{put_mid}
use lib.ListN.{set}
use Rattle.listing.specs.declared.Line.{Line}
use lib.Seq.{sets, sets-eq}
use Rattle.listing.specs.Lent.{Wrote}

-- a part of the buffer that holds the text now
pub put_part : (old text mid : List ℕ) (at : ℕ) → at + length text ≤ length old → mid ≡ text
    → put_mid at (at + length text - at) old mid ≡ sets old at text
put_part old text mid at room e =
    let n : at + length text - at ≡ length text = omega arith in
    rw (n, e, sets-eq text old at room, drop-drop (length text) at old, append_assoc)

pub sets_append : (l : List ℕ) (i : ℕ) (xs ys : List ℕ) → sets l i (xs ++ ys) ≡ sets (sets l i xs) (i + length xs) ys
sets_append l i [] ys = rw (add-zero i)
sets_append l i (x ∷ xs) ys =
    let e : suc i + length xs ≡ i + suc (length xs) = omega arith in
    sets_append (set l i x) (suc i) xs ys ∙ ap (λ (n : ℕ). sets (sets (set l i x) (suc i) xs) n ys) e

-- two pieces put one after the other are one
pub joins : {xs ys : List ℕ} {old mid new : Line} → Wrote old xs mid → Wrote mid ys new → Wrote old (xs ++ ys) new
joins {xs} {ys} {old} p q = record {
  kept = q.kept ∙ p.kept;
  room = q.room ∙ p.room;
  out = q.out ∙ rw (p.out, p.end, sets_append old.out.now old.at xs ys);
  end = q.end ∙ rw (p.end, length-append) (omega arith);
}
