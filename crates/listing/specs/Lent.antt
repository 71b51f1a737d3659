-- What a lent buffer holds after a line or some bytes were put into it.
-- Assumes nothing.
use Rattle.std.specs.Prelude.{◌≡◌, ℕ, ◌+◌, List, ltb, leb, length}
use Rattle.std.proofs.lemmas.List.Edits.{sets}
use Rattle.basis.specs.Choice.{pick}
use Rattle.listing.specs.declared.Line.{Line}

-- a text is put into the line: in the same buffer, which is as long as it was, from the line's place on, which is then the place after it
pub record Wrote (old : Line) (text : List ℕ) (new : Line) : Type 0 where
  pub kept : new.out.ghost_name ≡ old.out.ghost_name
  pub room : length new.out.now ≡ length old.out.now
  pub out : new.out.now ≡ sets old.out.now old.at text
  pub end : new.at ≡ old.at + length text

-- "one line" per file: the longest line that there is has room in so many bytes
abbrev pub line_room : ℕ
line_room = 128

-- the line from a place on, the rest as it was; a buffer that has less room than that from there on stays as it was
abbrev pub line_in : List ℕ → ℕ → List ℕ → List ℕ
line_in old at line = pick (ltb (length old) (at + line_room)) old (sets old at line)

-- the place after the line
abbrev pub line_end : List ℕ → ℕ → List ℕ → ℕ
line_end old at line = pick (ltb (length old) (at + line_room)) at (at + length line)

-- the bytes from a place on, where they fit there
abbrev pub stored_in : List ℕ → ℕ → List ℕ → List ℕ
stored_in old at bytes = pick (leb (at + length bytes) (length old)) (sets old at bytes) old
