-- The general header, the block's first 32 bytes: its fields by their bytes on the page, and the refusals 1 to 6.
-- Assumes nothing.
use Rattle.std.specs.Prelude.{ℕ, ◌+◌, ◌*◌, ◌^◌, Bool, true, false, not, ◌&&◌, ◌||◌, List, leb, ltb, eqb, length, None, Option, Result, Some, ⊤}
use Rattle.basis.specs.Choice.{pick}
use Rattle.refusals.specs.declared.Refusal.TheVariants.{Short, Format, Digit, Range, Length}
use Rattle.refusals.specs.Order.{when, or_else}
use Rattle.codes.specs.Codes.{row_of, demultiplexed}
use Rattle.block.specs.Bytes.{byte, upper, lower, pair, decimal, three_digits, binary, pairs}
use Rattle.refusals.specs.declared.Refusal.{Refusal}
use Rattle.codes.specs.declared.Row.{Row}

-- file number and format code
abbrev pub file_of : List ℕ → ℕ
file_of b = decimal b 1 2

abbrev pub code_of : List ℕ → ℕ
code_of b = binary b 3 4

-- year, day of the year, time of day
abbrev pub year_of : List ℕ → ℕ
year_of b = pair b 11

abbrev pub day_of : List ℕ → ℕ
day_of b = three_digits b 12

abbrev pub hour_of : List ℕ → ℕ
hour_of b = pair b 14

abbrev pub minute_of : List ℕ → ℕ
minute_of b = pair b 15

abbrev pub second_of : List ℕ → ℕ
second_of b = pair b 16

-- manufacturer and serial number
abbrev pub manufacturer_of : List ℕ → ℕ
manufacturer_of b = pair b 17

abbrev pub serial_of : List ℕ → ℕ
serial_of b = decimal b 18 19

-- B, the bytes per scan; I, the base scan interval in 1/16 ms
abbrev pub bytes_per_scan : List ℕ → ℕ
bytes_per_scan b = decimal b 20 22

abbrev pub interval_of : List ℕ → ℕ
interval_of b = byte b 23

-- polarity, S/BX and S/B
abbrev pub polarity_of : List ℕ → ℕ
polarity_of b = upper b 24

abbrev pub block_exponent : List ℕ → ℕ
block_exponent b = lower b 24

abbrev pub block_scans : List ℕ → ℕ
block_scans b = byte b 25

-- the scans of a block, "S/B x 2^S/BX"
unfoldable pub scans_per_block : List ℕ → ℕ
scans_per_block b = block_scans b * 2 ^ block_exponent b

-- record type, and R1, R2, R3
abbrev pub record_type : List ℕ → ℕ
record_type b = upper b 26

abbrev pub record_length : List ℕ → ℕ
record_length b = three_digits b 26

-- ST/R, CS, SK, EC, EX
abbrev pub scan_types : List ℕ → ℕ
scan_types b = pair b 28

abbrev pub channel_sets : List ℕ → ℕ
channel_sets b = pair b 29

abbrev pub skew_fields : List ℕ → ℕ
skew_fields b = pair b 30

abbrev pub extended_fields : List ℕ → ℕ
extended_fields b = pair b 31

abbrev pub external_fields : List ℕ → ℕ
external_fields b = pair b 32

-- "code not among the twelve"
abbrev pub unknown : Option Row → Bool
unknown None = true
unknown (Some row) = false

-- "bytes 1-2, 11, lower half 12, 13-22, lower half 26, 27-32" are digits
unfoldable pub general_digits : List ℕ → Bool
general_digits b =
    pairs b 1 2 && pairs b 11 11 && leb (lower b 12) 9 && pairs b 13 22 && leb (lower b 26) 9 && pairs b 27 32

-- from the least to the greatest that a range names
unfoldable pub within : ℕ → ℕ → ℕ → Bool
within least x greatest = leb least x && leb x greatest

-- byte 12's upper half, the day ("leap years not looked at") and the time of day
unfoldable pub time_in_range : List ℕ → Bool
time_in_range b =
    eqb (upper b 12) 0 && within 1 (day_of b) 366 && within 0 (hour_of b) 23 && within 0 (minute_of b) 59 && within 0 (second_of b) 59

-- "one of 1, 2, 4, .. 128"
unfoldable pub is_interval : ℕ → Bool
is_interval i = eqb i 1 || eqb i 2 || eqb i 4 || eqb i 8 || eqb i 16 || eqb i 32 || eqb i 64 || eqb i 128

-- B: 1 to 999,999, and of an 80xx code "bytes per scan must be recorded as zero"
unfoldable pub scan_in_range : ℕ → ℕ → Bool
scan_in_range code scan = pick (demultiplexed code) (eqb scan 0) (within 1 scan 999999)

-- B, I, ST/R and CS; every other field takes whatever its digits or bits can be
unfoldable pub counts_in_range : List ℕ → Bool
counts_in_range b =
    scan_in_range (code_of b) (bytes_per_scan b) && is_interval (interval_of b) && within 1 (scan_types b) 99 && within 1 (channel_sets b) 99

-- the 32-byte fields of the first t scan types: CS descriptors and SK skew fields in each
abbrev pub fields_before : List ℕ → ℕ → ℕ
fields_before b t = t * (channel_sets b + skew_fields b)

-- E4: "32 x [ST/R x (CS + SK) + 1 + EC + EX]"
unfoldable pub header_length : List ℕ → ℕ
header_length b = 32 * (fields_before b (scan_types b) + 1 + extended_fields b + external_fields b)

-- the first of the refusals 1 to 6
unfoldable pub general_fault : List ℕ → Result ⊤ Refusal
general_fault b =
    or_else (when (ltb (length b) 32) Short)
    (or_else (when (unknown (row_of (code_of b))) Format)
    (or_else (when (not (general_digits b)) Digit)
    (or_else (when (not (time_in_range b && counts_in_range b)) Range)
    (when (not (eqb (length b) (header_length b))) Length))))
