-- What a call comes to, by what it was admitted with.
-- Assumes nothing.
use Rattle.std.specs.Prelude.{⊤, Err, Ok, Result}
use Prim.Native.Nat.{ℕ}
use mathlib.Core.Path.{◌≡◌, refl, ap, ◌∙◌}
use mathlib.Core.Bool.{Bool, true, false}
use mathlib.Core.List.{List}
use native.Mathlib.Omega.{arith}
use Rattle.basis.specs.Choice.{pick}
use Rattle.refusals.specs.declared.Refusal.{Refusal}
use Rattle.header.specs.Faults.{header_fault}
use Rattle.turns.specs.Turns.{trace_count}
use Rattle.stream.specs.declared.Gave.{Gave}
use Rattle.stream.specs.Calls.{unchanged}
use Rattle.trace.specs.declared.State.{State}
use Rattle.trace.specs.Fit.{Fit, fitb}
use Rattle.trace.specs.Answers.{admitted_after, admitted, checked}
use Rattle.trace.proofs.Facts.{fit_of}

-- a choice between what a refusal and what n traces come to is the call's own
module _ {A : Type 0} (no : Refusal → A) (yes : A) where
  abbrev pub told : Result ℕ Refusal → A
  told (Err r) = no r
  told (Ok n) = yes

-- an accepted header, a fit state and the traces that were counted
pub record Admitted (b : List ℕ) (s : State) (n : ℕ) : Type 0 where
  pub header : header_fault b ≡ Ok tt
  pub fit : Fit b s
  pub traces : n ≡ trace_count b

found : (f : Result ⊤ Refusal) (t : Bool) (n m : ℕ) → admitted_after f t n ≡ Ok m → (f ≡ Ok tt) × (t ≡ true) × (m ≡ n)
unfolding pick
found (Err r) t n m e = let q : ◌≡◌ {A = ℕ} 0 1 = cc in absurd (omega arith)
found (Ok tt) true n m e = (refl, refl, cc)
found (Ok tt) false n m e = let q : ◌≡◌ {A = ℕ} 0 1 = cc in absurd (omega arith)

pub admitted_is : (b : List ℕ) (s : State) (n : ℕ) → admitted b s ≡ Ok n → Admitted b s n
unfolding admitted
admitted_is b s n e =
    let z = found (header_fault b) (fitb b s) (trace_count b) n e in
    record { header = z.0; fit = fit_of b s z.1; traces = z.2 }

checked_told : (f : Result ⊤ Refusal) (t : Bool) (n : ℕ) (s : State) (g : Gave State) → checked f t s g ≡ told (unchanged s) g (admitted_after f t n)
unfolding pick
checked_told (Err r) t n s g = refl
checked_told (Ok tt) true n s g = refl
checked_told (Ok tt) false n s g = refl

-- a call by what it was admitted with
pub by_admitted : (b : List ℕ) (s : State) (g : Gave State) {a : Result ℕ Refusal} → admitted b s ≡ a → checked (header_fault b) (fitb b s) s g ≡ told (unchanged s) g a
unfolding admitted
by_admitted b s g e = checked_told (header_fault b) (fitb b s) (trace_count b) s g ∙ ap (told (unchanged s) g) e
