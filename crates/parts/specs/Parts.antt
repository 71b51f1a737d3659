-- The parts of a header block that are handed out.
-- Assumes nothing.
use Rattle.std.specs.Prelude.{ℕ, ◌+◌, ◌*◌, List, Err, Ok, Result, ⊤}
use Rattle.general.specs.General.{scan_types, extended_fields, external_fields}
use Rattle.sets.specs.Descriptors.{descriptor_place}
use Rattle.header.specs.Faults.{header_fault}
use Rattle.parts.specs.Slices.{Slice, part}
use Rattle.refusals.specs.declared.Refusal.{Refusal}

-- "A refused question for a part hands out an empty part": none of the block, at its front
abbrev pub part_after : Result ⊤ Refusal → Slice → Slice → Slice
part_after (Ok tt) block p = p
part_after (Err r) block p = part block 0 0

-- the bytes before the extended header, which comes when every scan type has had its descriptors and skew fields
unfoldable pub extended_place : List ℕ → ℕ
extended_place b = descriptor_place b (scan_types b) 0

-- and before the external header, which comes next
unfoldable pub external_place : List ℕ → ℕ
external_place b = extended_place b + 32 * extended_fields b

-- "5-10 constants, unchecked bytes": the bytes before them, and how many they are
abbrev pub constants_place : ℕ
constants_place = 4

abbrev pub constants_length : ℕ
constants_length = 6

unfoldable pub constants_part : Slice → Slice
constants_part block = part_after (header_fault block.bytes) block (part block constants_place constants_length)

-- EC and EX fields of 32 bytes
unfoldable pub extended_part : Slice → Slice
extended_part block =
    part_after (header_fault block.bytes) block
    (part block (extended_place block.bytes) (32 * extended_fields block.bytes))

unfoldable pub external_part : Slice → Slice
external_part block =
    part_after (header_fault block.bytes) block
    (part block (external_place block.bytes) (32 * external_fields block.bytes))
