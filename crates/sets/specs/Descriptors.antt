-- The channel set descriptors, and the refusals 7 and 8. Scan type t and set s count from 0 here, and from 1 in a refusal.
-- Assumes nothing.
use Rattle.std.specs.Prelude.{ℕ, ◌+◌, ◌*◌, ◌%◌, Bool, not, ◌&&◌, ◌||◌, List, leb, eqb, drop, Result, ⊤}
use Rattle.refusals.specs.declared.Refusal.TheVariants.{Descriptor, Four}
use Rattle.refusals.specs.Order.{when, or_else, first_upto}
use Rattle.codes.specs.Codes.{per_of, demultiplexed}
use Rattle.block.specs.Bytes.{upper, lower, pair, decimal, pairs}
use Rattle.general.specs.General.{code_of, scan_types, channel_sets, fields_before}
use Rattle.refusals.specs.declared.Refusal.{Refusal}

-- E6: the bytes before a descriptor, those of the general header, the scan types before and the sets before
unfoldable pub descriptor_place : List ℕ → ℕ → ℕ → ℕ
descriptor_place b t s = 32 * (1 + fields_before b t + s)

-- the block from a descriptor on, so that the descriptor's byte 1 is the first
unfoldable pub descriptor_at : List ℕ → ℕ → ℕ → List ℕ
descriptor_at b t s = drop (descriptor_place b t s) b

-- "9-10 channels"
abbrev pub channels_in : List ℕ → ℕ
channels_in d = decimal d 9 10

-- rule 7: a descriptor's digits, its two numbers "counting from 1 in order", S/C at most 9, and the halves that are zero
unfoldable pub descriptor_holds : List ℕ → ℕ → ℕ → Bool
descriptor_holds d t s =
    pairs d 1 2 && pairs d 9 10 && pairs d 13 26 && eqb (pair d 1) (t + 1) && eqb (pair d 2) (s + 1) && eqb (lower d 11) 0
    && leb (upper d 12) 9 && eqb (upper d 15) 0 && eqb (upper d 19) 0

-- rule 8: where the code's row has a scan's samples in groups of four, as 0015 has, the channels divide by 4; in 8015 a group is of one channel
unfoldable pub four_holds : ℕ → ℕ → Bool
four_holds code channels = demultiplexed code || not (eqb (per_of code) 4) || eqb (channels % 4) 0

-- "7 and 8 go descriptor by descriptor, 7 first", "with scan type and set by place"
unfoldable pub set_fault : List ℕ → ℕ → ℕ → Result ⊤ Refusal
set_fault b t s =
    or_else (when (not (descriptor_holds (descriptor_at b t s) t s)) (Descriptor (t + 1) (s + 1)))
    (when (not (four_holds (code_of b) (channels_in (descriptor_at b t s)))) (Four (t + 1) (s + 1)))

-- the first of a scan type's sets
unfoldable pub scan_type_fault : List ℕ → ℕ → Result ⊤ Refusal
scan_type_fault b t = first_upto (set_fault b t) (channel_sets b)

-- the first of all scan types
unfoldable pub descriptors_fault : List ℕ → Result ⊤ Refusal
descriptors_fault b = first_upto (scan_type_fault b) (scan_types b)
