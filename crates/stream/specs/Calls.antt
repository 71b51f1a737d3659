-- "A portion: 23, an earlier stop, 13; then per byte": what a portion answers, the state after it, and what it writes.
-- Assumes nothing.
use Rattle.std.specs.Prelude.{ℕ, ◌*◌, ◌/◌, Bool, List, [], length, ℤ, ◌==◌, nat_lt}
use Rattle.basis.specs.Choice.{pick}
use Rattle.refusals.specs.declared.Refusal.{Refusal}
use Rattle.refusals.specs.declared.Refusal.TheVariants as R
use Rattle.refusals.specs.Table.{stop_refusal}
use Rattle.scan.specs.declared.State.{State}
use Rattle.scan.specs.Fit.{fitb}
use Rattle.scan.specs.Step.{after, wrote}
use Rattle.stream.specs.declared.Gave.{Gave}
use Rattle.stream.specs.declared.Answer.{Answer}
use Rattle.stream.specs.declared.Answer.TheVariants.{GoingOn, Stopped, Refused}

-- how many samples were written, M and X each, and whether the body has stopped
unfoldable pub answered : State → ℕ → Answer
answered s n = pick (s.stop == 0) (GoingOn (n / 2)) (Stopped (n / 2) (stop_refusal s.stop s.stopat))

-- the samples that an answer says were written
abbrev pub samples_told : Answer → ℕ
samples_told (GoingOn n) = n
samples_told (Stopped n r) = n
samples_told (Refused r) = 0

-- "13 and 23 change nothing and stop nothing"
unfoldable pub unchanged : {S : Type 0} → S → Refusal → Gave S
unchanged s r = record { state = s; answer = Refused r }

-- a portion with room enough: its bytes one by one
unfoldable pub fed : State → List ℕ → Gave State
fed s bs = record { state = after s bs; answer = answered (after s bs) (length (wrote s bs)) }

-- "A portion needs twice its length in output numbers"
abbrev pub lacks_room : ℕ → ℕ → Bool
lacks_room room bytes = nat_lt room (2 * bytes)

-- of a fit state: an earlier stop; ROOM, where fewer numbers than twice the bytes are lent
unfoldable pub fit_portion : State → List ℕ → ℕ → Gave State
fit_portion s bs room =
    pick (s.stop == 0)
    (pick (lacks_room room (length bs)) (unchanged s R.Room) (fed s bs))
    (record { state = s; answer = answered s 0 })

-- STATE comes first
unfoldable pub portion : State → List ℕ → ℕ → Gave State
portion s bs room = pick (fitb s) (fit_portion s bs room) (unchanged s R.State)

-- the numbers that a portion writes from a fit state
unfoldable pub fit_wrote : State → List ℕ → ℕ → List ℤ
fit_wrote s bs room = pick (s.stop == 0) (pick (lacks_room room (length bs)) [] (wrote s bs)) []

-- the numbers that a portion writes: none from an unfit state
unfoldable pub portion_wrote : State → List ℕ → ℕ → List ℤ
portion_wrote s bs room = pick (fitb s) (fit_wrote s bs room) []
