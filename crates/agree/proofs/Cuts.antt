-- A machine that takes bytes and block ends one at a time, and is handed a body piece by piece: the cuts make no difference.
-- Assumes nothing.
use Prim.Native.Nat.{ℕ}
use mathlib.Core.Path.{◌≡◌, refl, sym, ap, ◌∙◌}
use mathlib.Core.List.{List, [], ◌∷◌, ◌++◌}
use Rattle.rules.proofs.Machine.{Run, one, feed, close, uncut}
use Rattle.agree.specs.Cuts.{Piece, portion, block_end, before, spelled}

module _ {St S : Type 0} (step : St → ℕ → St) (emit : St → ℕ → List S) (end_of : St → St) where
  abbrev pub pieces : Run St S → List Piece → Run St S
  pieces c [] = c
  pieces c (portion bs ∷ es) = pieces (feed step emit end_of c bs) es
  pieces c (block_end ∷ es) = pieces (close step emit end_of c) es

  feed_append : (c : Run St S) (ps qs : List ℕ) → feed step emit end_of c (ps ++ qs) ≡ feed step emit end_of (feed step emit end_of c ps) qs
  feed_append c [] qs = refl
  feed_append c (b ∷ ps) qs = feed_append (one step emit end_of c b) ps qs

  uncut_before : (c : Run St S) (ps : List ℕ) (bs : List (List ℕ)) (tail : List ℕ)
      → uncut step emit end_of (feed step emit end_of c ps) bs tail ≡ uncut step emit end_of c (before ps bs tail).blocks (before ps bs tail).tail
  uncut_before c ps [] tail = sym (feed_append c ps tail)
  uncut_before c ps (b ∷ bs) tail = ap (λ (x : Run St S). uncut step emit end_of (close step emit end_of x) bs tail) (sym (feed_append c ps b))

  pub pieces_uncut : (c : Run St S) (es : List Piece) → pieces c es ≡ uncut step emit end_of c (spelled es).blocks (spelled es).tail
  pieces_uncut c [] = refl
  pieces_uncut c (portion ps ∷ es) = pieces_uncut (feed step emit end_of c ps) es ∙ uncut_before c ps (spelled es).blocks (spelled es).tail
  pieces_uncut c (block_end ∷ es) = pieces_uncut (close step emit end_of c) es
