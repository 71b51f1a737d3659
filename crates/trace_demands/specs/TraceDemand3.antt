-- The third demand for trace bodies: however a body is cut, what is read is what the rules say of the uncut body, trace by trace.
-- Assumes nothing.
use Rattle.std.specs.Prelude.{ℕ, suc, ◌+◌, ◌*◌, ◌-◌, ◌%◌, ◌≤◌, ◌<◌, ◌≡◌, List, length, take, drop, Ok, None}
use Rattle.basis.specs.Digits.{written, byte_in}
use Rattle.basis.specs.Fields.{field}
use Rattle.basis.specs.Upto.{sum_upto}
use Rattle.codes.specs.Codes.{per_of, lead_of, word_bytes_of}
use Rattle.words.specs.Words.{value_of}
use Rattle.general.specs.General.{code_of, scan_types}
use Rattle.sets.specs.Samples.{subscans_of, samples_of}
use Rattle.header.specs.Faults.{header_fault}
use Rattle.turns.specs.Turns.{traces_of, trace_count, turn_at}
use Rattle.rules.specs.Tape.{Body, ends, block_of, length_of, start_of, byte_at, size}
use Rattle.rules.specs.First.{Stops}
use Rattle.rules.specs.Samples.{m_then_x}
use Rattle.rules.specs.Outcome.{Report, report, bytes_before}
use Rattle.trace_rules.specs.Samples.{samples_in, left_in, group_begins, word_begins, numbers_at}
use Rattle.trace_rules.specs.Faults.{scans_of, byte_fault, end_fault}
use Rattle.trace_rules.specs.Outcome.{bytes_in, done_in, types_seen, stop_of, done_of, numbers_of, closing}
use Rattle.trace_agree.specs.Agreement.{Agreement}
use Rattle.trace_demands.specs.Bodies.{Portions}
use Rattle.trace_demands.specs.Instances.{traces}

-- the bytes of a body before its stop, or its end
abbrev pub bytes_read : List ℕ → Body → ℕ
bytes_read b d = bytes_before (stop_of b d) (size d)

-- the samples of trace k that are completed there
abbrev pub done_there : List ℕ → Body → ℕ → ℕ
done_there b d = done_in b d (bytes_read b d)

-- "each sample gives M then X": the numbers of a body are two for each sample before its stop, trace after trace, and in a trace sample after sample.
pub record InOrder (b : List ℕ) (d : Body) : Type 0 where
  pub count : length (numbers_of b d) ≡ 2 * done_of b d
  pub total : done_of b d ≡ sum_upto (done_there b d) (suc (ends d))
  -- the numbers of sample i of trace k come after those of the traces before it and of the samples before it
  pub sample : (k i : ℕ) → k ≤ ends d → i < done_there b d k
      → take 2 (drop (2 * (sum_upto (done_there b d) k + i)) (numbers_of b d)) ≡ numbers_at (code_of b) (byte_at d) (start_of d k) i
  -- they are its word's, at its place in the trace, and of the exponents of its group its own, the first highest
  pub value : (k i : ℕ)
      → numbers_at (code_of b) (byte_at d) (start_of d k) i
      ≡ m_then_x
      (value_of (code_of b)
      (field (written 256 (byte_at d) (start_of d k + group_begins (code_of b) i) (lead_of (code_of b))) (4 * (per_of (code_of b) - 1 - i % per_of (code_of b))) 4)
      (written 256 (byte_at d) (start_of d k + word_begins (code_of b) i) (word_bytes_of (code_of b))))
  -- "Each trace is one block": byte m of trace k is byte m of block k
  pub own : (k m : ℕ) → k ≤ ends d → m < length_of d k → byte_at d (start_of d k + m) ≡ byte_in (block_of d k) m

-- the first trace of scan type t
abbrev pub first_of : List ℕ → ℕ → ℕ
first_of b = sum_upto (traces_of b)

-- A body that is closed with the report t: every trace of the header has ended, and none is begun.
pub record Whole (b : List ℕ) (d : Body) (t : Report) : Type 0 where
  pub all : ends d ≡ trace_count b
  pub no_more : length d.tail ≡ 0
  -- "A trace's samples must be scans times 2^(S/C), at least one scan, the same for all channels of a scan type", with no bytes left over: those of the scan type's first trace
  pub scans : (k : ℕ) → k < trace_count b → 0 < scans_of b d (first_of b (turn_at b k).scan_type)
  pub each : (k : ℕ) → k < trace_count b
      → samples_in (code_of b) (length_of d k) ≡ scans_of b d (first_of b (turn_at b k).scan_type) * subscans_of b (turn_at b k).scan_type (turn_at b k).set
  pub left : (k : ℕ) → k < trace_count b → left_in (code_of b) (length_of d k) ≡ 0
  -- "scans are those of the traces read": so that samples are scans x S/S
  pub samples : t.samples ≡ t.scans * samples_of b 0
  pub last_type : t.last_type ≡ scan_types b
  -- "ITB and TWI are reported as none"
  pub itb : t.itb ≡ None
  pub window : t.window ≡ None

pub record TraceDemand3 : Type 0 where
  -- from every accepted header block of an 80xx code and every list of calls, "with the header block of the opening lent unchanged at every call": every state is fit for the
  -- block, the samples joined are those of the uncut body before its stop, and each next call and the closing question answer what its rules give
  pub agrees : Agreement
  -- in particular two portions are one, and what a portion writes is what the caller then has
  pub portions : (b : List ℕ) → Portions (traces b)
  -- the samples that a report counts are those written
  pub owed : (b : List ℕ) (d : Body) (t : Report) → closing b d ≡ report t → done_of b d ≡ t.samples
  -- the samples of the uncut body are there one by one,
  pub order : (b : List ℕ) (d : Body) → InOrder b d
  -- and those that are completed are those whose words end before the stop
  pub completed : (b : List ℕ) (d : Body) → header_fault b ≡ Ok tt → (k i : ℕ) → i < done_there b d k → word_begins (code_of b) i + word_bytes_of (code_of b) ≤ bytes_in d (bytes_read b d) k
  pub given : (b : List ℕ) (d : Body) → header_fault b ≡ Ok tt → (k i : ℕ) → word_begins (code_of b) i + word_bytes_of (code_of b) ≤ bytes_in d (bytes_read b d) k → i < done_there b d k
  pub whole : (b : List ℕ) (d : Body) (t : Report) → header_fault b ≡ Ok tt → closing b d ≡ report t → Whole b d t
  -- "a scan type is seen once its last trace has ended": after n ends the first t of them are, exactly where no trace of theirs is to come
  pub seen : (b : List ℕ) (d : Body) (n t : ℕ) → t ≤ types_seen b d n → first_of b t ≤ n
  pub ended : (b : List ℕ) (d : Body) (n t : ℕ) → 0 < n → t ≤ scan_types b → first_of b t ≤ n → t ≤ types_seen b d n
  -- the stop of the rules is the first fault on the tape: what it names has that fault, and nothing before it has any
  pub first : (b : List ℕ) (d : Body) → Stops (byte_fault b d) (end_fault b d) d (stop_of b d)
