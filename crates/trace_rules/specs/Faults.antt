-- What is wrong with a byte of a trace body, or with a block end: 14, 15, 24 and 15, 8, 25. "Each trace is one block": block i is trace i, from 0.
-- A byte stands at place p, a block end after p bytes, in trace i, which begins at place s. b is the header block, d the body.
-- Assumes nothing.
use Rattle.std.specs.Prelude.{ℕ, ◌+◌, ◌-◌, ◌*◌, ◌/◌, ◌%◌, Bool, not, List, eqb, ltb, leb, Result, ⊤}
use Rattle.basis.specs.Choice.{◌and◌, ◌or◌}
use Rattle.refusals.specs.declared.Refusal.TheVariants.{Long, Block, FourAt, Trace, Count}
use Rattle.refusals.specs.Order.{when, or_else}
use Rattle.codes.specs.Codes.{per_of}
use Rattle.general.specs.General.{code_of}
use Rattle.turns.specs.Turns.{trace_count, type_at, turn_at, subscans_at}
use Rattle.rules.specs.Tape.{Body, length_of, byte_at}
use Rattle.trace_rules.specs.Headers.{header_wrong}
use Rattle.trace_rules.specs.Samples.{samples_in, left_in}
use Rattle.refusals.specs.declared.Refusal.{Refusal}

module _ (b : List ℕ) (d : Body) where
  -- "anything after the last trace"
  abbrev pub after_last : ℕ → Bool
  after_last i = leb (trace_count b) i

  -- "per byte 14, 15", then "24 TRACE at the first wrong trace header byte"
  unfoldable pub byte_fault : ℕ → ℕ → ℕ → Result ⊤ Refusal
  byte_fault i s p =
      or_else (when (eqb p 4294967295) (Long p))
      (or_else (when (after_last i) (Block p))
      (when (ltb (p - s) 20 and header_wrong b i (p - s + 1) (byte_at d p)) (Trace p)))

  -- "BLOCK is for a block end inside a trace header", of a trace of n bytes; one of no bytes too
  abbrev pub header_cut : ℕ → Bool
  header_cut n = ltb n 20

  -- "FOUR then speaks of samples per trace": they do not divide by the samples of a group
  abbrev pub four_wrong : ℕ → Bool
  four_wrong n = not (eqb (samples_in (code_of b) n % per_of (code_of b)) 0)

  -- the samples of trace k in a scan, 2^(S/C), and its scans: "a trace's samples must be scans times 2^(S/C)"
  abbrev pub per_scan : ℕ → ℕ
  per_scan k = subscans_at b (turn_at b k)

  abbrev pub scans_of : ℕ → ℕ
  scans_of k = samples_in (code_of b) (length_of d k) / per_scan k

  -- "the same for all channels of a scan type": those of its first trace
  abbrev pub type_scans : ℕ → ℕ
  type_scans i = scans_of (type_at b i).first

  -- "samples are not as above or bytes are left over", of n bytes of trace i: "scans times 2^(S/C), at least one scan, the same for all channels of a scan type"
  abbrev pub count_wrong : ℕ → ℕ → Bool
  count_wrong i n =
      not (eqb (left_in (code_of b) n) 0) or eqb (type_scans i) 0 or not (eqb (samples_in (code_of b) n) (type_scans i * per_scan i))

  -- a block end: 15, 8 with the trace's scan type and set, which the page counts from 1, and 25
  unfoldable pub end_fault : ℕ → ℕ → ℕ → Result ⊤ Refusal
  end_fault i s p =
      or_else (when (after_last i or header_cut (p - s)) (Block p))
      (or_else (when (four_wrong (p - s)) (FourAt p ((turn_at b i).scan_type + 1) ((turn_at b i).set + 1)))
      (when (count_wrong i (p - s)) (Count p)))
