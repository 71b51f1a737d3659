-- What a call on a trace body answers, each with the header block lent again: "its refusals come first, and a state not fit for it is STATE".
-- Assumes nothing.
use Rattle.std.specs.Prelude.{ℕ, ◌+◌, ◌/◌, Bool, List, eqb, Err, Ok, Result, ⊤}
use Rattle.basis.specs.Choice.{pick}
use Rattle.refusals.specs.declared.Refusal.{Refusal}
use Rattle.refusals.specs.declared.Refusal.TheVariants as R
use Rattle.refusals.specs.Table.{stop_refusal}
use Rattle.header.specs.Faults.{header_fault}
use Rattle.turns.specs.Turns.{trace_count, turn_at}
use Rattle.stream.specs.declared.Answer.{Answer}
use Rattle.stream.specs.declared.Answer.TheVariants.{GoingOn, Stopped}
use Rattle.stream.specs.declared.Gave.{Gave}
use Rattle.stream.specs.Calls.{unchanged}
use Rattle.trace.specs.declared.State.{State}
use Rattle.trace.specs.Fit.{fitb}

-- the stop that a state keeps; FOUR with the scan type and set of the trace that it stands in, from 1
unfoldable pub stop_of : List ℕ → State → Refusal
stop_of b s =
    pick (eqb s.stop 8) (R.FourAt s.stopat ((turn_at b s.ends).scan_type + 1) ((turn_at b s.ends).set + 1)) (stop_refusal s.stop s.stopat)

-- how many samples were written, M and X each, and whether the body has stopped
unfoldable pub answered : List ℕ → State → ℕ → Answer
answered b s n = pick (eqb s.stop 0) (GoingOn (n / 2)) (Stopped (n / 2) (stop_of b s))

-- the header's refusals, then STATE; else so many traces
abbrev pub admitted_after : Result ⊤ Refusal → Bool → ℕ → Result ℕ Refusal
admitted_after (Err r) fits n = Err r
admitted_after (Ok tt) fits n = pick fits (Ok n) (Err R.State)

-- by the header block: why a call is refused, or the traces of the record
unfoldable pub admitted : List ℕ → State → Result ℕ Refusal
admitted b s = admitted_after (header_fault b) (fitb b s) (trace_count b)

-- the header's refusals, then STATE
abbrev pub checked : Result ⊤ Refusal → Bool → State → Gave State → Gave State
checked (Err r) fits s g = unchanged s r
checked (Ok tt) fits s g = pick fits g (unchanged s R.State)
