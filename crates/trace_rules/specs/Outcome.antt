-- What a trace body comes to: its stop, its samples, and the answer to the closing question. b is the header block, d the body; traces count from 0.
-- Assumes nothing.
use Rattle.std.specs.Prelude.{ℕ, zero, suc, ◌-◌, min, Bool, not, List, eqb, ltb, ℤ, length, Result, ⊤, None}
use Rattle.basis.specs.Choice.{pick, ◌and◌, ◌or◌}
use Rattle.basis.specs.Upto.{sum_upto, list_upto}
use Rattle.refusals.specs.declared.Refusal.TheVariants.{Part, Open, Missing}
use Rattle.refusals.specs.Order.{when, or_else}
use Rattle.general.specs.General.{code_of, scan_types}
use Rattle.turns.specs.Turns.{type_at, turn_at}
use Rattle.rules.specs.Tape.{Body, ends, length_of, start_of, byte_at, size, first_fault}
use Rattle.rules.specs.Outcome.{Report, Closing, answered, bytes_before}
use Rattle.trace_rules.specs.Samples.{samples_in, left_in, numbers_at, off_at}
use Rattle.trace_rules.specs.Faults.{scans_of, byte_fault, end_fault}
use Rattle.refusals.specs.declared.Refusal.{Refusal}

-- how many bytes of trace k come before place p of the body
abbrev pub bytes_in : Body → ℕ → ℕ → ℕ
bytes_in d p k = min (length_of d k) (p - start_of d k)

module _ (b : List ℕ) (d : Body) where
  -- ---- before place p
  -- the samples of trace k that are completed there, their numbers, and how many of them are off rule
  abbrev pub done_in : ℕ → ℕ → ℕ
  done_in p k = samples_in (code_of b) (bytes_in d p k)

  abbrev pub numbers_in : ℕ → ℕ → List ℤ
  numbers_in p k = list_upto (numbers_at (code_of b) (byte_at d) (start_of d k)) (done_in p k)

  abbrev pub off_in : ℕ → ℕ → ℕ
  off_in p k = sum_upto (off_at (code_of b) (byte_at d) (start_of d k)) (done_in p k)

  -- the same of all traces, among them the one that has not ended
  abbrev pub done_before : ℕ → ℕ
  done_before p = sum_upto (done_in p) (suc (ends d))

  abbrev pub numbers_before : ℕ → List ℤ
  numbers_before p = list_upto (numbers_in p) (suc (ends d))

  abbrev pub off_before : ℕ → ℕ
  off_before p = sum_upto (off_in p) (suc (ends d))

  -- ---- of the first n traces
  -- the scans of trace k, where it is the first of its scan type
  abbrev pub new_scans : ℕ → ℕ
  new_scans k = pick (turn_at b k).first (scans_of b d k) 0

  -- "scans are those of the traces read": each scan type's once, so that a report's samples are scans x S/S
  abbrev pub scans_read : ℕ → ℕ
  scans_read = sum_upto new_scans

  -- "a scan type is seen once its last trace has ended": as many as lie wholly among the traces that have ended; "S/S 0 has no trace"
  abbrev pub types_seen : ℕ → ℕ
  types_seen zero = 0
  types_seen (suc n) = (type_at b (suc n)).number

  -- ---- of a whole body
  -- "14 to 18 stop the body", here 8, 14, 15, 24 and 25: at the first fault in tape order
  abbrev pub stop_of : Result ⊤ Refusal
  stop_of = first_fault (byte_fault b d) (end_fault b d) d

  -- how many samples are "completed before a stop", or the body's end, and those samples, M then X
  abbrev pub done_of : ℕ
  done_of = done_before (bytes_before stop_of (size d))

  abbrev pub numbers_of : List ℤ
  numbers_of = numbers_before (bytes_before stop_of (size d))

  -- counted in the uncut body; "ITB and TWI are reported as none"
  abbrev pub report_of : Report
  report_of =
      record {
        scans = scans_read (ends d);
        samples = done_before (size d);
        off = off_before (size d);
        last_type = types_seen (ends d);
        itb = None;
        window = None;
      }

  -- "PART is closing inside a trace header or with bytes left over (in 8015, any unfinished group of ten)", of n bytes of a trace that has not ended
  abbrev pub part_left : ℕ → Bool
  part_left n = (ltb 0 n and ltb n 20) or not (eqb (left_in (code_of b) n) 0)

  -- "Closing: 23, earlier stop, 19, 20, 21", without 23 since there is no state here: bytes of a trace that has not ended; fewer scan types seen than ST/R
  abbrev pub closing_fault : Result ⊤ Refusal
  closing_fault =
      or_else stop_of
      (or_else (when (part_left (length d.tail)) Part)
      (or_else (when (not (eqb (length d.tail) 0)) Open)
      (when (ltb (types_seen (ends d)) (scan_types b)) Missing)))

  -- the refusal, or the report
  unfoldable pub closing : Closing
  closing = answered closing_fault report_of
