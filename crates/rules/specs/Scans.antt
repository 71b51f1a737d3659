-- The scans of a body: each by itself, and each against the scan before it. Scans and places count from 0, the bytes of a scan from 1.
-- Assumes nothing.
use Rattle.std.specs.Prelude.{ℕ, zero, suc, ◌+◌, ◌-◌, ◌*◌, ◌%◌, ◌^◌, Bool, false, not, List, eqb, ltb, leb}
use Rattle.basis.specs.Choice.{pick, ◌and◌, ◌or◌}
use Rattle.basis.specs.Digits.{written}
use Rattle.basis.specs.Fields.{field}
use Rattle.basis.specs.Upto.{sum_upto}
use Rattle.general.specs.General.{code_of, bytes_per_scan, interval_of, scan_types, scans_per_block}
use Rattle.sets.specs.Samples.{samples_of}

-- what the header says of its body
pub record Shape : Type 0 where
  pub code : ℕ  -- the format code
  pub scan : ℕ  -- B, bytes per scan
  pub samples : ℕ  -- S/S, samples per scan
  pub interval : ℕ  -- I, in 1/16 ms
  pub types : ℕ  -- ST/R, scan types
  pub block : ℕ  -- scans per block, S/B x 2^S/BX; 0: the body is one block

-- from the header block, by the header's own fields
abbrev pub shape_of : List ℕ → Shape
shape_of b =
    record {
      code = code_of b;
      scan = bytes_per_scan b;
      samples = samples_of b 0;
      interval = interval_of b;
      types = scan_types b;
      block = scans_per_block b;
    }

-- ---- a scan by itself
-- bit k of a byte: "bit 0 is the most significant"
abbrev pub bit : ℕ → ℕ → ℕ
bit k b = field b (7 - k) 1

-- "FF FF FF, a byte with last bits 01": b is wrong as byte n
abbrev pub start_wrong : ℕ → ℕ → Bool
start_wrong n b = (leb n 3 and not (eqb b 0xFF)) or (eqb n 4 and not (eqb (field b 0 2) 1))

-- byte 8 is "a zero byte": b is wrong as byte n
abbrev pub zero_wrong : ℕ → ℕ → Bool
zero_wrong n b = eqb n 8 and not (eqb b 0)

-- "each next is the last plus 16 I, starting again at 2^24"
abbrev pub next_timing : ℕ → ℕ → ℕ
next_timing interval t = (t + 16 * interval) % 2 ^ 24

-- `byte p` is the body's byte at place p
module _ (sh : Shape) (byte : ℕ → ℕ) where
  -- byte n of scan j: "each scan has B bytes"
  abbrev pub in_scan : ℕ → ℕ → ℕ
  in_scan j n = byte (j * sh.scan + (n - 1))

  -- byte 4: "bit 1 TWI, 2 ITB, 3 DP"
  abbrev pub twi_of : ℕ → ℕ
  twi_of j = bit 1 (in_scan j 4)

  abbrev pub itb_of : ℕ → ℕ
  itb_of j = bit 2 (in_scan j 4)

  abbrev pub dp_of : ℕ → ℕ
  dp_of j = bit 3 (in_scan j 4)

  -- bytes 5 to 7: "three bytes T"
  abbrev pub time_of : ℕ → ℕ
  time_of j = written 256 (in_scan j) 5 3

  -- ---- a scan and the scan before it
  -- 1 where the next scan has the other DP
  abbrev pub flip_of : ℕ → ℕ
  flip_of j = pick (eqb (dp_of j) (dp_of (suc j))) 0 1

  -- the scan type of scan j, from 1 on: DP "flips with each next scan type"
  abbrev pub type_of : ℕ → ℕ
  type_of j = 1 + sum_upto flip_of j

  -- "first DP is 1, or a flip past the last scan type"
  abbrev pub phase_wrong : ℕ → Bool
  phase_wrong zero = eqb (dp_of 0) 1
  phase_wrong (suc j) = ltb sh.types (type_of (suc j))

  -- "T out of step": "the first T is free"
  abbrev pub step_wrong : ℕ → Bool
  step_wrong zero = false
  step_wrong (suc j) = not (eqb (time_of (suc j)) (next_timing sh.interval (time_of j)))
