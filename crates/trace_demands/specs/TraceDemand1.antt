-- The first demand for trace bodies: whatever is handed in, every call ends with its answer or with the refusal that the description names.
-- Assumes nothing.
use Rattle.std.specs.Prelude.{ℕ, ◌≤◌, ◌<◌, ◌≡◌, true, false, List, Err, Ok}
use Rattle.refusals.specs.declared.Refusal.{Refusal}
use Rattle.refusals.specs.Table.{said, stop_place}
use Rattle.general.specs.General.{code_of}
use Rattle.header.specs.Faults.{header_fault}
use Rattle.rules.specs.Tape.{Body, ends}
use Rattle.trace_rules.specs.Outcome as rules
use Rattle.trace.specs.declared.State.{State}
use Rattle.trace.specs.Fit.{fitb}
use Rattle.trace.specs.Answers as answers
use Rattle.trace_body.specs.Open.{opened}
use Rattle.trace_agree.specs.Agreement.{TurnedAway}
use Rattle.trace_demands.specs.Bodies.{Stopping, Refused}
use Rattle.trace_demands.specs.Instances.{traces, trace_stop}
use Rattle.trace_demands.specs.Told.{StopTold}

-- the stop r of a body, with the trace that it is in
pub record Told (b : List ℕ) (d : Body) (r : Refusal) : Type 0 where
  pub trace : ℕ
  pub inside : trace ≤ ends d
  pub told : StopTold b trace (stop_place r) (said r)

pub record TraceDemand1 : Type 0 where
  -- "with the header block of the opening lent unchanged at every call": a call that answers with a stop leaves a state that keeps it, and so does every fit state that has a
  -- stop; "a state not fit for it is STATE"; ROOM leaves no trace
  pub stopping : (b : List ℕ) → header_fault b ≡ Ok tt → Stopping (traces b) (fitb b) (trace_stop b)
  -- "Calls on a trace body lend the header block again: its refusals come first": whatever the state, nothing is changed or written, however many calls there are
  pub refused : (b : List ℕ) (r : Refusal) → header_fault b ≡ Err r → (s : State) → Refused (traces b) s r
  -- the same in the words of the agreement
  pub turned_away : TurnedAway
  -- "a refused opening an all-zero one, unfit", whatever block is lent with it; and so is that of a multiplexed code
  pub shut : (b c : List ℕ) (r : Refusal) → header_fault b ≡ Err r → fitb c (opened b) ≡ false
  pub no_traces : (b c : List ℕ) → code_of b < 0x8000 → fitb c (opened b) ≡ false
  -- "Each answers its number and the values its row names": the stop that a fit state keeps,
  pub kept : (b : List ℕ) (s : State) → fitb b s ≡ true → (s.stop ≡ 0 → ⊥) → StopTold b s.ends s.stopat (said (answers.stop_of b s))
  pub number : (b : List ℕ) (s : State) → fitb b s ≡ true → (s.stop ≡ 0 → ⊥) → (said (answers.stop_of b s)).number ≡ s.stop
  -- and the stop of a body
  pub told : (b : List ℕ) (d : Body) (r : Refusal) → rules.stop_of b d ≡ Err r → Told b d r
