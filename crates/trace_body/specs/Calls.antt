-- The other calls on a trace body: a block end, and the closing question.
-- Assumes nothing.
use Rattle.std.specs.Prelude.{ℕ, ◌-◌, ◌%◌, Bool, not, List, eqb, ltb, Err, None, Ok, Result, ⊤}
use Rattle.basis.specs.Choice.{pick}
use Rattle.refusals.specs.declared.Refusal.TheVariants as R
use Rattle.codes.specs.Codes.{group_of}
use Rattle.general.specs.General.{code_of, scan_types}
use Rattle.header.specs.Faults.{header_fault}
use Rattle.turns.specs.Turns.{turn_at}
use Rattle.stream.specs.declared.Gave.{Gave}
use Rattle.body.specs.declared.Report.{Report}
use Rattle.trace.specs.declared.State.{State}
use Rattle.trace.specs.Fit.{fitb}
use Rattle.trace.specs.Answers.{stop_of, answered, checked}
use Rattle.trace_body.specs.Ends.{end_on}
use Rattle.refusals.specs.declared.Refusal.{Refusal}

-- ---- a block end
unfoldable pub end_gave : List ℕ → State → Gave State
end_gave b s = record { state = end_on b s; answer = answered b (end_on b s) 0 }

unfoldable pub block_end : List ℕ → State → Gave State
block_end b s = checked (header_fault b) (fitb b s) s (end_gave b s)

-- ---- the closing question: an earlier stop, PART, OPEN, MISSING
unfoldable pub partb : ℕ → ℕ → Bool
partb w n = pick (ltb n 20) (ltb 0 n) (not (eqb ((n - 20) % w) 0))

-- the scan types whose last trace has ended
unfoldable pub types_seen : List ℕ → ℕ → ℕ
types_seen b n = pick (eqb n 0) 0 (turn_at b n).scan_type

unfoldable pub report : State → ℕ → Report
report s types = record { scans = s.scans; samples = s.samples; off = s.off; last_type = types; itb = None; window = None }

unfoldable pub finish : List ℕ → State → Result Report Refusal
finish b s =
    pick (eqb s.stop 0)
    (pick (partb (group_of (code_of b)) s.at)
    (Err R.Part)
    (pick (eqb s.at 0)
    (pick (ltb (types_seen b s.ends) (scan_types b)) (Err R.Missing) (Ok (report s (types_seen b s.ends))))
    (Err R.Open)))
    (Err (stop_of b s))

abbrev pub checked_close : Result ⊤ Refusal → Bool → Result Report Refusal → Result Report Refusal
checked_close (Err r) fits c = Err r
checked_close (Ok tt) fits c = pick fits c (Err R.State)

unfoldable pub close : List ℕ → State → Result Report Refusal
close b s = checked_close (header_fault b) (fitb b s) (finish b s)
