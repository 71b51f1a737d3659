-- A stopped reader keeps to its stop.
-- Assumes nothing.
use Prim.Native.Nat.{ℕ}
use mathlib.Core.Path.{◌≡◌, refl}
use mathlib.Core.Bool.{false}
use mathlib.Core.List.{List}
use lib.Dec.{eqb}
use Rattle.basis.specs.Choice.{pick}
use Rattle.refusals.specs.declared.Refusal.{Refusal}
use Rattle.refusals.specs.Table.{said, stop_refusal}
use Rattle.trace_rules.proofs.Laws.{Halts, long, block, trace, count, four}
use Rattle.trace.specs.declared.State.{State}
use Rattle.trace.specs.Step as S
use Rattle.trace_body.specs.Ends as E
use Rattle.trace.specs.Answers as T

-- a stop's number is not 0, and the state that keeps it tells the refusal again
pub numbered : {b : List ℕ} {i p : ℕ} {r : Refusal} → Halts b i p r → eqb (said r).number 0 ≡ false
numbered long = refl
numbered block = refl
numbered trace = refl
numbered count = refl
numbered four = refl

pub again : {b : List ℕ} {i p : ℕ} {r : Refusal} (s : State) → Halts b i p r → s.stop ≡ (said r).number → s.stopat ≡ p → s.ends ≡ i → T.stop_of b s ≡ r
unfolding T.stop_of stop_refusal pick
again s long e f g = rw (e, f)
again s block e f g = rw (e, f)
again s trace e f g = rw (e, f)
again s count e f g = rw (e, f)
again s four e f g = rw (e, f, g)

-- a stopped state takes no byte and no block end
pub step_stopped : (b : List ℕ) (s : State) (x : ℕ) → eqb s.stop 0 ≡ false → S.step_on b s x ≡ S.still s
unfolding S.step_on S.step pick
step_stopped b s x h = rw h

pub end_stopped : (b : List ℕ) (s : State) → eqb s.stop 0 ≡ false → E.end_on b s ≡ s
unfolding E.end_on E.ended pick
end_stopped b s h = rw h
