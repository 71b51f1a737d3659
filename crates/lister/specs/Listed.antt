-- What the lister is held to: what its calls hand over to be written is what the rules give of the whole image, however the image is cut.
-- Assumes nothing.
use Rattle.std.specs.Prelude.{◌≡◌, ℕ, ◌^◌, ◌<◌, ◌≤◌, true, List, [], ◌∷◌, ◌++◌, length, take, ℤ}
use Rattle.std.proofs.lemmas.List.Edits.{sets}
use Rattle.framing.specs.Cuts.{joined}
use Rattle.agree.specs.Calls.{Bytes}
use Rattle.listing.specs.Lent.{line_in, line_end}
use Rattle.lister.specs.declared.Progress.{Progress}
use Rattle.lister.specs.Listing.{header_room, printed_of}
use Rattle.lister.specs.Turn.{Lister}
use Rattle.lister.specs.Calls.{begun, roomy, called, last_by}

-- the lister with all its buffers, and what was handed over to be written
pub record Desk : Type 0 where
  pub progress : Progress
  pub header : List ℕ
  pub numbers : List ℤ
  pub lines : List ℕ
  pub handed : List ℕ

-- after a call: so many bytes of the lines' buffer are handed over as the answer says
abbrev pub taken : Desk → Lister → Desk
taken s c = record {
  progress = c.progress;
  header = c.header;
  numbers = c.numbers;
  lines = sets s.lines 0 c.out;
  handed = s.handed ++ take (length c.out) (sets s.lines 0 c.out);
}

-- a call for each portion
abbrev pub calls : Desk → List (List ℕ) → Desk
calls s [] = s
calls s (p ∷ ps) = calls (taken s (called s.progress p s.header s.numbers s.lines)) ps

-- from the start, with the buffers that are lent
abbrev pub fresh : List ℕ → List ℤ → List ℕ → Desk
fresh header numbers lines = record { progress = begun; header = header; numbers = numbers; lines = lines; handed = [] }

-- what is handed over in all, with the last line
abbrev pub written : Desk → List ℕ
written s = s.handed ++ take (line_end s.lines 0 (last_by s.progress)) (line_in s.lines 0 (last_by s.progress))

-- portions of at most so many bytes
abbrev pub Portions : ℕ → List (List ℕ) → Type 0
Portions most [] = Unit {0}
Portions most (p ∷ ps) = ((length p ≤ most) × Bytes p) × Portions most ps

-- "The program `reel` reads a reel image": cut into any portions for which the buffers have room, what is handed over in all is the listing of
-- the image that the portions make. Record numbers have 64 bits, which hold the number of files of any image of less than 2^64 bytes.
abbrev pub Listed : Type 0
Listed =
    (most : ℕ) (header : List ℕ) (numbers : List ℤ) (lines : List ℕ) (portions : List (List ℕ)) → roomy most header numbers lines ≡ true
    → Portions most portions → length (joined portions) < 2 ^ 64 → written (calls (fresh header numbers lines) portions) ≡ printed_of header_room (joined portions)
