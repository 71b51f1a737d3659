-- The skew bytes of a scan type, one for each sample of a scan. Scan type t counts from 1
-- in what a question asks (skew_fault, skew_part, skew_byte_fault, skew_answer), and from 0 elsewhere.
-- Assumes nothing.
use Rattle.std.specs.Prelude.{ℕ, ◌+◌, ◌*◌, ◌-◌, Bool, not, ◌||◌, List, eqb, length, get_or, Err, Ok, Result, ⊤}
use Rattle.basis.specs.Choice.{pick}
use Rattle.refusals.specs.declared.Refusal.TheVariants.{Index, Sheet}
use Rattle.refusals.specs.Order.{when, or_else}
use Rattle.general.specs.General.{scan_types, channel_sets, skew_fields, within}
use Rattle.sets.specs.Descriptors.{descriptor_place}
use Rattle.sets.specs.Samples.{samples_of}
use Rattle.header.specs.Faults.{header_fault}
use Rattle.layout.specs.Indexes.{place_fault}
use Rattle.parts.specs.Slices.{Slice, part}
use Rattle.parts.specs.Parts.{part_after}
use Rattle.refusals.specs.declared.Refusal.{Refusal}

-- "Where SK is 0 the skew comes from the crew's sheet lent beside the block", else from the block
unfoldable pub source : {A : Type 0} → List ℕ → A → A → A
source b block sheet = pick (eqb (skew_fields b) 0) sheet block

-- the bytes there before those of scan type t: in the sheet "S/S bytes per scan type, in order", in the block all to the end of its CS descriptors
unfoldable pub skew_place : List ℕ → ℕ → ℕ
skew_place b t = source b (descriptor_place b t (channel_sets b)) (t * samples_of b t)

-- "sheet used, length not ST/R x S/S"; every scan type of an accepted header has the first one's S/S
unfoldable pub sheet_holds : List ℕ → List ℕ → Bool
sheet_holds b sheet = not (eqb (skew_fields b) 0) || eqb (length sheet) (scan_types b * samples_of b 0)

-- "Questions: header, 11, 12"
unfoldable pub skew_fault : List ℕ → List ℕ → ℕ → Result ⊤ Refusal
skew_fault b sheet t =
    or_else (header_fault b) (or_else (when (not (within 1 t (scan_types b))) Index) (when (not (sheet_holds b sheet)) Sheet))

-- "without padding for skew (S/S bytes)"
unfoldable pub skew_of : Slice → Slice → ℕ → Slice
skew_of block sheet t = part (source block.bytes block sheet) (skew_place block.bytes t) (samples_of block.bytes t)

-- the part that is handed out
unfoldable pub skew_part : Slice → Slice → ℕ → Slice
skew_part block sheet t = part_after (skew_fault block.bytes sheet.bytes t) block (skew_of block sheet (t - 1))

-- SS, "the skew byte" of sample k
unfoldable pub skew_byte : List ℕ → List ℕ → ℕ → ℕ → ℕ
skew_byte b sheet t k = get_or (source b b sheet) (skew_place b t + k) 0

-- "Questions: header, 11, 12", of one sample
unfoldable pub skew_byte_fault : List ℕ → List ℕ → ℕ → ℕ → Result ⊤ Refusal
skew_byte_fault b sheet t k = or_else (place_fault b t k) (when (not (sheet_holds b sheet)) Sheet)

-- the skew byte, or why there is none
abbrev pub skew_after : Result ⊤ Refusal → ℕ → Result ℕ Refusal
skew_after (Ok tt) x = Ok x
skew_after (Err r) x = Err r

-- SS of sample k of scan type t, counting from 1
unfoldable pub skew_answer : List ℕ → List ℕ → ℕ → ℕ → Result ℕ Refusal
skew_answer b sheet t k = skew_after (skew_byte_fault b sheet t k) (skew_byte b sheet (t - 1) k)
