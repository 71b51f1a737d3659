-- Portions of a trace body: two are one, and the caller has what they write.
-- Assumes nothing.
use Rattle.std.specs.Prelude.{Err, Ok, Result, ⊤}
use Prim.Native.Nat.{ℕ, ◌*◌, ◌/◌, ◌%◌}
use mathlib.Core.Path.{◌≡◌, refl, sym}
use mathlib.Core.Bool.{Bool, true, false}
use mathlib.Core.List.{List, [], ◌∷◌, ◌++◌, append_assoc}
use native.Mathlib.Omega.{arith}
use lib.Dec.{eqb, ltb}
use lib.ListN.{length}
use Rattle.basis.specs.Choice.{pick}
use Rattle.refusals.specs.declared.Refusal.TheVariants as refusal
use Rattle.header.specs.Faults.{header_fault}
use Rattle.stream.specs.declared.Answer.TheVariants as answer
use Rattle.stream.specs.Calls.{samples_told, lacks_room, unchanged}
use Rattle.trace.specs.declared.State.{State}
use Rattle.scan.specs.Step.{m_and_x}
use Rattle.trace.specs.Step.{step_on, after, wrote}
use Rattle.trace.specs.Fit.{fitb}
use Rattle.trace.specs.Answers.{stop_of, answered}
use Rattle.trace_stream.specs.Calls.{portion, fit_portion, fed, portion_wrote, fit_wrote}
use Rattle.trace_agree.proofs.Public.{fit_portion_lem, portion_state, portion_wrote_lem}
use Rattle.trace_demands.specs.Bodies.{Portions, TwoAreOne}
use Rattle.trace_demands.specs.Instances.{traces}
use Rattle.trace_demands.proofs.Idles.{told_samples, two_more}
use Rattle.trace_demands.proofs.TraceStops.{refuses, unmoved}
use Rattle.trace_demands.proofs.Outputs.{Counted, output, idle_counted, idle_two, fold_two}
use Rattle.refusals.specs.declared.Refusal.{Refusal}

module _ (b : List ℕ) where
  after_append : (s : State) (xs ys : List ℕ) → after b s (xs ++ ys) ≡ after b (after b s xs) ys
  unfolding after
  after_append s [] ys = refl
  after_append s (x ∷ xs) ys = after_append (step_on b s x).state xs ys

  wrote_append : (s : State) (xs ys : List ℕ) → wrote b s (xs ++ ys) ≡ wrote b s xs ++ wrote b (after b s xs) ys
  unfolding wrote after
  wrote_append s [] ys = refl
  wrote_append s (x ∷ xs) ys = rw (wrote_append (step_on b s x).state xs ys) (sym (append_assoc (m_and_x (step_on b s x)) _ _))

  -- ---- two numbers are written for each sample that is answered
  even : (s : State) (bs : List ℕ) → length (wrote b s bs) % 2 ≡ 0
  unfolding wrote m_and_x
  even s [] = refl
  even s (x ∷ bs) = two_more (step_on b s x).value (wrote b (step_on b s x).state bs) (even (step_on b s x).state bs)

  said : (s : State) (n : ℕ) → samples_told (answered b s n) ≡ n / 2
  unfolding answered
  said s n = told_samples (eqb s.stop 0) (n / 2) (stop_of b s)

  fit_counts : header_fault b ≡ Ok tt → (s : State) (bs : List ℕ) (room : ℕ) → fitb b s ≡ true → Counted (traces b) s bs room
  unfolding portion fit_portion fed unchanged portion_wrote fit_wrote pick
  fit_counts clear s bs room f = go (eqb s.stop 0) (ltb room (2 * length bs)) refl refl
    where
      go : (z l : Bool) → eqb s.stop 0 ≡ z → ltb room (2 * length bs) ≡ l → Counted (traces b) s bs room
      go false l e h = rw (clear, f, e, said s 0)
      go true true e h = rw (clear, f, e, h)
      go true false e h = rw (clear, f, e, h, said (after b s bs) (length (wrote b s bs))) (omega (arith, even s bs))

  -- ---- whatever the header and the state
  counts : (s : State) (bs : List ℕ) (room : ℕ) → Counted (traces b) s bs room
  counts s bs room = go (header_fault b) (fitb b s) refl refl
    where
      go : (h : Result ⊤ Refusal) (t : Bool) → header_fault b ≡ h → fitb b s ≡ t → Counted (traces b) s bs room
      go (Err r) t e f = idle_counted (traces b) s r r (refuses b r e s) bs room
      go (Ok tt) false e f = idle_counted (traces b) s refusal.State refusal.State (unmoved b e s f) bs room
      go (Ok tt) true e f = fit_counts e s bs room f

  two : (s : State) (x y : List ℕ) (m n l : ℕ) → lacks_room m (length x) ≡ false → lacks_room n (length y) ≡ false → lacks_room l (length (x ++ y)) ≡ false → TwoAreOne (traces b) s x y m n l
  two s x y m n l hx hy h = go (header_fault b) (fitb b s) refl refl
    where
      go : (h : Result ⊤ Refusal) (t : Bool) → header_fault b ≡ h → fitb b s ≡ t → TwoAreOne (traces b) s x y m n l
      go (Err r) t e f = idle_two (traces b) s (answer.Refused r) r (refuses b r e s) x y m n l
      go (Ok tt) false e f = idle_two (traces b) s (answer.Refused refusal.State) refusal.State (unmoved b e s f) x y m n l
      go (Ok tt) true e f =
          fold_two (traces b) (fitb b) (after b) (wrote b) (λ s bs room f. fit_portion_lem b e s f bs room) (λ s bs room f. portion_state b e s f bs room) (λ s bs room f. portion_wrote_lem b e s f bs room)
          after_append wrote_append s f x y m n l hx hy h

  pub portions : Portions (traces b)
  portions = record { cuts = two; seen = λ s bs out. output (traces b) s bs out (counts s bs (length out)) }
