-- The third demand: however a body is cut, what is read is what the rules say of the uncut body.
-- Assumes nothing.
use Rattle.std.specs.Prelude.{ℕ, ◌+◌, ◌*◌, ◌<◌, ◌≡◌, List, ℤ, length, take, drop}
use Rattle.basis.specs.Digits.{written}
use Rattle.codes.specs.Codes.{lead_of, word_bytes_of}
use Rattle.scan.specs.declared.State.{State}
use Rattle.rules.specs.Tape.{Body, byte_at}
use Rattle.rules.specs.Scans.{Shape}
use Rattle.rules.specs.Faults.{byte_fault, end_fault}
use Rattle.rules.specs.First.{Stops}
use Rattle.rules.specs.Samples.{group_begins, word_begins, lead_at, word_at, numbers_at}
use Rattle.rules.specs.Outcome.{Report, report, stop_of, done_of, numbers_of, closing}
use Rattle.agree.specs.Agreement.{Agreement}
use Rattle.trace_demands.specs.Bodies.{Portions, output_of as outputIn}
use Rattle.trace_demands.specs.Instances.{scans}
use Rattle.trace_demands.specs.TraceDemand3.{TraceDemand3}

-- the caller's output after a portion of a body of scans
abbrev pub output_of : State → List ℕ → List ℤ → List ℤ
output_of = outputIn scans

-- "each sample gives M then X": the numbers of a body are two for each sample before its stop, those of sample n at 2 n. Sample k of
-- scan j is sample j x S/S + k, and is read at its place in the B bytes of its scan: its word, and the exponents of its group.
pub record InOrder (sh : Shape) (d : Body) : Type 0 where
  pub count : length (numbers_of sh d) ≡ 2 * done_of sh d
  pub sample : (n : ℕ) → n < done_of sh d → take 2 (drop (2 * n) (numbers_of sh d)) ≡ numbers_at sh (byte_at d) n
  pub word : (j k : ℕ) → k < sh.samples →
      word_at sh (byte_at d) (j * sh.samples + k) ≡ written 256 (byte_at d) (j * sh.scan + word_begins sh (byte_at d) k) (word_bytes_of sh.code)
  pub lead : (j k : ℕ) → k < sh.samples →
      lead_at sh (byte_at d) (j * sh.samples + k) ≡ written 256 (byte_at d) (j * sh.scan + group_begins sh (byte_at d) k) (lead_of sh.code)

pub record Demand3 : Type 0 where
  -- from every accepted header block of a multiplexed code and every list of calls: every state is fit, the samples joined are those of the uncut body
  -- before its stop, and each next call and the closing question answer what its rules give
  pub agrees : Agreement
  -- in particular two portions are one, and what a portion writes is what the caller then has: of a body of scans, as of any
  pub portions : Portions scans
  -- the samples that a report counts are those written
  pub owed : (sh : Shape) (d : Body) (t : Report) → closing sh d ≡ report t → done_of sh d ≡ t.samples
  -- the samples of the uncut body are there one by one
  pub order : (sh : Shape) (d : Body) → InOrder sh d
  -- the stop of the rules is the first fault on the tape: what it names has that fault, and nothing before it has any
  pub first : (sh : Shape) (d : Body) → Stops (byte_fault sh (byte_at d)) (end_fault sh (byte_at d)) d (stop_of sh d)
  -- the same of a body of traces
  pub traces : TraceDemand3
