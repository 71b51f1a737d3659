-- A choice that is made, what it comes to at a block end, and a closing by what it was admitted with.
-- Assumes nothing.
use Rattle.std.specs.Prelude.{⊤, Err, Ok, Result}
use Prim.Native.Nat.{ℕ, ◌/◌}
use mathlib.Core.Path.{◌≡◌, refl, ap, ◌∙◌}
use mathlib.Core.Bool.{Bool, true, false}
use mathlib.Core.List.{List}
use lib.Dec.{eqb, ltb}
use Rattle.basis.specs.Choice.{pick}
use Rattle.refusals.specs.declared.Refusal.{Refusal}
use Rattle.header.specs.Faults.{header_fault}
use Rattle.turns.specs.Turns.{trace_count, subscans_at}
use Rattle.body.specs.declared.Report.{Report}
use Rattle.trace.specs.declared.Look.{Look}
use Rattle.trace.specs.declared.State.{State}
use Rattle.trace.specs.Fit.{fitb}
use Rattle.trace.specs.Answers.{admitted_after, admitted}
use Rattle.trace.proofs.Admits.{told}
use Rattle.trace_body.specs.Calls.{checked_close}
use Rattle.trace_body.specs.Ends.{ended, unevenb, tally, scans_by, samples_of}

pub ended_tally : (b : List ℕ) (k : Look) (s : State) → eqb s.stop 0 ≡ true → k.past ≡ false → ltb s.at 20 ≡ false → unevenb k.group s.at ≡ false → ended b k s ≡ tally b k s
unfolding ended pick
ended_tally b k s e p l u = rw (e, p, l, u)

pub scans_first : (b : List ℕ) (k : Look) (s : State) → k.turn.first ≡ true → scans_by b k s ≡ samples_of k.group s.at / subscans_at b k.turn
unfolding scans_by pick
scans_first b k s e = rw e

close_told : (f : Result ⊤ Refusal) (t : Bool) (n : ℕ) (c : Result Report Refusal) → checked_close f t c ≡ told Err c (admitted_after f t n)
unfolding pick
close_told (Err r) t n c = refl
close_told (Ok tt) true n c = refl
close_told (Ok tt) false n c = refl

pub close_admitted : (b : List ℕ) (s : State) (c : Result Report Refusal) {a : Result ℕ Refusal} → admitted b s ≡ a → checked_close (header_fault b) (fitb b s) c ≡ told Err c a
unfolding admitted
close_admitted b s c e = close_told (header_fault b) (fitb b s) (trace_count b) c ∙ ap (told Err c) e
