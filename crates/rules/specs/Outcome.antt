-- What a body comes to: its stop, its samples, and the answer to the closing question.
-- Assumes nothing.
use Rattle.std.specs.Prelude.{ℕ, zero, suc, ◌*◌, ◌/◌, ◌%◌, not, List, eqb, ltb, ℤ, length, Err, Ok, Result, ⊤, Option, Some, None}
use Rattle.basis.specs.Choice.{pick}
use Rattle.basis.specs.Upto.{upto, sum_upto, list_upto}
use Rattle.refusals.specs.declared.Refusal.{Refusal}
use Rattle.refusals.specs.declared.Refusal.TheVariants.{Part, Open, Missing}
use Rattle.refusals.specs.Order.{when, or_else}
use Rattle.refusals.specs.Table.{stop_place}
use Rattle.rules.specs.Tape.{Body, byte_at, size, first_fault}
use Rattle.rules.specs.Scans.{Shape, twi_of, itb_of, time_of, type_of}
use Rattle.rules.specs.Faults.{byte_fault, end_fault}
use Rattle.rules.specs.Samples.{done_before, numbers_at, off_at}

-- ---- of the first n scans
module _ (sh : Shape) (byte : ℕ → ℕ) where
  -- the scan type of the last scan, which is as many as were seen
  abbrev pub last_type : ℕ → ℕ
  last_type zero = 0
  last_type (suc j) = type_of sh byte j

  -- "ITB of the first scan"
  abbrev pub first_itb : ℕ → Option ℕ
  first_itb zero = None
  first_itb (suc j) = Some (itb_of sh byte 0)

  -- T of scan j, where it has TWI set
  abbrev pub window_of : ℕ → Option ℕ
  window_of j = pick (eqb (twi_of sh byte j) 1) (Some (time_of sh byte j)) None

-- the first that is not none
abbrev pub or_next : Option ℕ → Option ℕ → Option ℕ
or_next None later = later
or_next (Some t) later = Some t

-- "T of the first scan with TWI set, or none"
abbrev pub first_window : Shape → (ℕ → ℕ) → ℕ → Option ℕ
first_window sh byte = upto or_next None (window_of sh byte)

-- "it reports scans, samples, off-rule words, last scan type, ITB of the first scan, and T of the first scan with TWI set, or none"
pub record Report : Type 0 where
  pub scans : ℕ
  pub samples : ℕ
  pub off : ℕ
  pub last_type : ℕ
  pub itb : Option ℕ
  pub window : Option ℕ

-- the answer to the closing question
pub data Closing : Type 0 where
  refused : Refusal → Closing
  report : Report → Closing

-- a report, unless something is in the way
abbrev pub answered : Result ⊤ Refusal → Report → Closing
answered (Ok tt) t = report t
answered (Err r) t = refused r

-- how many of n bytes come before a stop
abbrev pub bytes_before : Result ⊤ Refusal → ℕ → ℕ
bytes_before (Ok tt) n = n
bytes_before (Err r) n = stop_place r

-- ---- of a whole body
module _ (sh : Shape) (d : Body) where
  -- "14 to 18 stop the body": at the first fault in tape order
  abbrev pub stop_of : Result ⊤ Refusal
  stop_of = first_fault (byte_fault sh (byte_at d)) (end_fault sh (byte_at d)) d

  -- how many samples are "completed before a stop", or the body's end
  abbrev pub done_of : ℕ
  done_of = done_before sh (byte_at d) (bytes_before stop_of (size d))

  -- those samples, M then X
  abbrev pub numbers_of : List ℤ
  numbers_of = list_upto (numbers_at sh (byte_at d)) done_of

  -- whole scans
  abbrev pub scans_of : ℕ
  scans_of = size d / sh.scan

  -- counted in the uncut body
  abbrev pub report_of : Report
  report_of =
      record {
        scans = scans_of;
        samples = scans_of * sh.samples;
        off = sum_upto (off_at sh (byte_at d)) (scans_of * sh.samples);
        last_type = last_type sh (byte_at d) scans_of;
        itb = first_itb sh (byte_at d) scans_of;
        window = first_window sh (byte_at d) scans_of;
      }

  -- "Closing: 23, earlier stop, 19, 20, 21", without 23 since there is no state here: inside a scan; bytes after the last block end;
  -- fewer scan types seen than ST/R
  abbrev pub closing_fault : Result ⊤ Refusal
  closing_fault =
      or_else stop_of
      (or_else (when (not (eqb (size d % sh.scan) 0)) Part)
      (or_else (when (not (eqb (length d.tail) 0)) Open)
      (when (ltb (last_type sh (byte_at d) scans_of) sh.types) Missing)))

  -- the refusal, or the report
  unfoldable pub closing : Closing
  closing = answered closing_fault report_of
