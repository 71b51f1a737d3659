-- What the lister prints of a whole image, by its items: no state, portion or buffer.
-- Assumes nothing.
use Rattle.std.specs.Prelude.{ℕ, ◌+◌, List, [], ◌∷◌, ◌++◌}
use Rattle.framing.specs.Image.{reading_of}
use Rattle.framing.specs.Cuts.{joined}
use Rattle.listing.specs.Lines.{line_of, last_of}
use Rattle.files.specs.Outcomes.{outcome_of}

-- an item belongs to the file whose mark comes next, if one comes
abbrev pub onto : List ℕ → List (List (List ℕ)) → List (List (List ℕ))
onto item [] = []
onto item (file ∷ files) = (item ∷ file) ∷ files

-- the files of a reel that have their mark, each its items
abbrev pub files_of : List (List ℕ) → List (List (List ℕ))
files_of [] = []
files_of ([] ∷ items) = [] ∷ files_of items
files_of ((b ∷ bs) ∷ items) = onto (b ∷ bs) (files_of items)

-- "LARGE, lister only: header item above 65,536 bytes"
abbrev pub header_room : ℕ
header_room = 65536

-- a line for each file after the first `count`; "Files without an item are not numbered"
abbrev pub lines_of : ℕ → ℕ → List (List (List ℕ)) → List (List ℕ)
lines_of cap count [] = []
lines_of cap count ([] ∷ files) = lines_of cap count files
lines_of cap count ((header ∷ blocks) ∷ files) =
    line_of (count + 1) (outcome_of cap header blocks) ∷ lines_of cap (count + 1) files

-- all that is printed of an image
abbrev pub printed_of : ℕ → List ℕ → List ℕ
printed_of cap image = joined (lines_of cap 0 (files_of (reading_of image).items)) ++ last_of (reading_of image).ending
