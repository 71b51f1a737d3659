-- A portion of a trace body: "calls on a trace body lend the header block again: its refusals come first, and a state not fit for it is STATE"; then an earlier stop, ROOM, the bytes.
-- Assumes nothing.
use Rattle.std.specs.Prelude.{ℕ, Bool, List, [], eqb, ℤ, length, Err, Ok, Result, ⊤}
use Rattle.basis.specs.Choice.{pick}
use Rattle.refusals.specs.declared.Refusal.TheVariants as R
use Rattle.header.specs.Faults.{header_fault}
use Rattle.stream.specs.declared.Gave.{Gave}
use Rattle.stream.specs.Calls.{lacks_room, unchanged}
use Rattle.trace.specs.declared.State.{State}
use Rattle.trace.specs.Step.{after, wrote}
use Rattle.trace.specs.Fit.{fitb}
use Rattle.trace.specs.Answers.{answered, checked}
use Rattle.refusals.specs.declared.Refusal.{Refusal}

-- the bytes
unfoldable pub fed : List ℕ → State → List ℕ → Gave State
fed b s bs = record { state = after b s bs; answer = answered b (after b s bs) (length (wrote b s bs)) }

-- of a fit state
unfoldable pub fit_portion : List ℕ → State → List ℕ → ℕ → Gave State
fit_portion b s bs room =
    pick (eqb s.stop 0) (pick (lacks_room room (length bs)) (unchanged s R.Room) (fed b s bs)) (record { state = s; answer = answered b s 0 })

-- the header's refusals, STATE, then these
unfoldable pub portion : List ℕ → State → List ℕ → ℕ → Gave State
portion b s bs room = checked (header_fault b) (fitb b s) s (fit_portion b s bs room)

-- the numbers that a portion writes
unfoldable pub fit_wrote : List ℕ → State → List ℕ → ℕ → List ℤ
fit_wrote b s bs room = pick (eqb s.stop 0) (pick (lacks_room room (length bs)) [] (wrote b s bs)) []

abbrev pub checked_wrote : Result ⊤ Refusal → Bool → List ℤ → List ℤ
checked_wrote (Err r) fits w = []
checked_wrote (Ok tt) fits w = pick fits w []

unfoldable pub portion_wrote : List ℕ → State → List ℕ → ℕ → List ℤ
portion_wrote b s bs room = checked_wrote (header_fault b) (fitb b s) (fit_wrote b s bs room)
