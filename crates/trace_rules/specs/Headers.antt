-- The trace header, "a 20-byte trace header as in the paper": which of its bytes are wrong. Its bytes count from 1, as the page counts them; b is the header block, u the trace's turn, which counts from 0.
-- Assumes nothing.
use Rattle.std.specs.Prelude.{ℕ, ◌+◌, ◌/◌, ◌%◌, Bool, not, List, eqb, leb}
use Rattle.basis.specs.Choice.{◌and◌, ◌or◌}
use Rattle.block.specs.Bytes.{byte}
use Rattle.general.specs.General.{skew_fields, within}
use Rattle.turns.specs.declared.Turn.{Turn}
use Rattle.turns.specs.Turns.{turn_at, skew_at, writes}

-- bytes 1-2: "trace header digits must agree with the file number", which the header block has in its own bytes 1-2
abbrev pub file_wrong : List ℕ → ℕ → ℕ → Bool
file_wrong b n x = leb n 2 and not (eqb x (byte b n))

-- "and the trace's turn": byte 3 the scan type, byte 4 the set, bytes 5-6 the channel, which the page counts from 1
abbrev pub turn_wrong : Turn → ℕ → ℕ → Bool
turn_wrong u n x =
    (eqb n 3 and not (writes x (u.scan_type + 1)))
    or (eqb n 4 and not (writes x (u.set + 1)))
    or (eqb n 5 and not (writes x ((u.channel + 1) / 100)))
    or (eqb n 6 and not (writes x ((u.channel + 1) % 100)))

-- "byte 11 must be the channel's first skew byte where SK is not 0"
abbrev pub skew_wrong : List ℕ → Turn → ℕ → ℕ → Bool
skew_wrong b u n x = eqb n 11 and not (eqb (skew_fields b) 0) and not (eqb x (skew_at b u))

-- "bytes 10, 12 and 16-20 are zero"
abbrev pub zero_wrong : ℕ → ℕ → Bool
zero_wrong n x = (eqb n 10 or eqb n 12 or within 16 n 20) and not (eqb x 0)

-- x is wrong as byte n of trace i; "timing and window bytes are free": 7-9 and 13-15
unfoldable pub header_wrong : List ℕ → ℕ → ℕ → ℕ → Bool
header_wrong b i n x = file_wrong b n x or turn_wrong (turn_at b i) n x or skew_wrong b (turn_at b i) n x or zero_wrong n x
