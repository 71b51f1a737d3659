-- The body that is handed over piece by piece: portions cut anywhere, and block ends. No rule of a body depends on the cuts.
-- Assumes nothing.
use Rattle.std.specs.Prelude.{ℕ, List, [], ◌∷◌, ◌++◌}
use Rattle.rules.specs.Tape.{Body}

-- a portion, or a block end
pub data Piece : Type 0 where
  portion : List ℕ → Piece
  block_end : Piece

-- some bytes, and then blocks and a tail
abbrev pub before : List ℕ → List (List ℕ) → List ℕ → Body
before ps [] tail = record { blocks = []; tail = ps ++ tail }
before ps (b ∷ bs) tail = record { blocks = (ps ++ b) ∷ bs; tail = tail }

-- the body that the pieces spell
abbrev pub spelled : List Piece → Body
spelled [] = record { blocks = []; tail = [] }
spelled (portion ps ∷ es) = before ps (spelled es).blocks (spelled es).tail
spelled (block_end ∷ es) = record { blocks = [] ∷ (spelled es).blocks; tail = (spelled es).tail }
