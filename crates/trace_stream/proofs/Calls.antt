-- What a portion writes, by what it was admitted with.
-- Assumes nothing.
use Rattle.std.specs.Prelude.{⊤, Err, Ok, Result}
use Prim.Native.Nat.{ℕ}
use mathlib.Core.Path.{◌≡◌, refl, ap, ◌∙◌}
use mathlib.Core.Bool.{Bool, true, false}
use mathlib.Core.List.{List, []}
use lib.IntN.{ℤ}
use Rattle.basis.specs.Choice.{pick}
use Rattle.refusals.specs.declared.Refusal.{Refusal}
use Rattle.header.specs.Faults.{header_fault}
use Rattle.turns.specs.Turns.{trace_count}
use Rattle.trace.specs.declared.State.{State}
use Rattle.trace.specs.Fit.{fitb}
use Rattle.trace.specs.Answers.{admitted_after, admitted}
use Rattle.trace.proofs.Admits.{told}
use Rattle.trace_stream.specs.Calls.{checked_wrote}

wrote_told : (f : Result ⊤ Refusal) (t : Bool) (n : ℕ) (w : List ℤ) → checked_wrote f t w ≡ told (λ _. []) w (admitted_after f t n)
unfolding pick
wrote_told (Err r) t n w = refl
wrote_told (Ok tt) true n w = refl
wrote_told (Ok tt) false n w = refl

pub wrote_admitted : (b : List ℕ) (s : State) (w : List ℤ) {a : Result ℕ Refusal} → admitted b s ≡ a → checked_wrote (header_fault b) (fitb b s) w ≡ told (λ _. []) w a
unfolding admitted
wrote_admitted b s w e = wrote_told (header_fault b) (fitb b s) (trace_count b) w ∙ ap (told (λ _. []) w) e
