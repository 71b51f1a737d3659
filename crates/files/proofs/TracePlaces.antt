-- Where a body of traces stands that has not stopped: as many bytes on as it was given.
-- Assumes nothing.
use Rattle.std.specs.Prelude.{Err, Ok, Result, ⊤}
use Prim.Native.Nat.{ℕ, ◌+◌, ◌<◌}
use mathlib.Core.Path.{◌≡◌, refl}
use mathlib.Core.Bool.{false}
use mathlib.Core.List.{List, [], ◌∷◌}
use native.Mathlib.Omega.{arith}
use borrow.Author.Tests.{eqb-false}
use lib.Dec.{eqb}
use lib.ListN.{length}
use Rattle.basis.proofs.Choices.{pick_both}
use Rattle.scan.proofs.Choices.{pick_cases}
use Rattle.general.specs.General.{code_of}
use Rattle.header.specs.Faults.{header_fault}
use Rattle.framing.specs.Cuts.{joined}
use Rattle.words.specs.declared.Value.{Value}
use Rattle.trace.specs.declared.State.{State}
use Rattle.scan.specs.declared.Stepped.{Stepped}
use Rattle.trace.specs.declared.Look.{Look}
use Rattle.stream.specs.declared.Gave.{Gave}
use Rattle.trace.specs.Step.{still, halted, halt, moved_by, moved, quiet, headed, sample, plain, grouped, word, step, step_on, after}
use Rattle.trace.specs.Fit.{fitb}
use Rattle.stream.specs.Calls.{unchanged}
use Rattle.trace.specs.Answers.{checked}
use Rattle.trace_body.specs.Ends.{one_end, tally, ended, end_on}
use Rattle.trace_body.specs.Calls.{end_gave, block_end}
use Rattle.trace_body.specs.Open.{fresh, opened_on, opened}
use Rattle.files.proofs.Blocks.{body_place}
use Rattle.files.proofs.Traces.{ends, traces_after}
use Rattle.refusals.specs.declared.Refusal.{Refusal}

-- unless it stops, one byte on
abbrev On : State → Stepped State → Type 0
On s r = r.state.stop ≡ 0 → (r.state.place ≡ s.place + 1) × (s.stop ≡ 0)

on_moved : (s : State) (n off e x : ℕ) → On s (still (moved s n off e x))
unfolding still moved moved_by
on_moved s n off e x z = (refl, z)

on_halt : (s : State) (n : ℕ) → 0 < n → On s (halt s n)
unfolding halt still halted
on_halt s n h z = absurd (omega arith)

on_quiet : (s : State) (x : ℕ) → On s (quiet s x)
unfolding quiet
on_quiet s x = on_moved s _ _ _ x

on_sample : (s : State) (v : Value) (x : ℕ) → On s (sample s v x)
unfolding sample moved moved_by
on_sample s v x z = (refl, z)

on_word : (s : State) (w x : ℕ) → On s (word s w x)
unfolding word grouped plain
on_word s w x =
    pick_both (On s) _
    (pick_both (On s) _ (on_quiet s x) (pick_both (On s) _ (on_moved s _ _ _ x) (on_sample s _ x)))
    (pick_both (On s) _ (on_sample s _ x) (on_quiet s x))

stays : (s : State) → eqb s.stop 0 ≡ false → On s (still s)
unfolding still
stays s u z = absurd (eqb-false s.stop 0 u z)

on_step : (b : List ℕ) (k : Look) (s : State) (x : ℕ) → On s (step b k s x)
unfolding step headed
on_step b k s x =
    pick_cases (On s) (eqb s.stop 0)
    (λ u. pick_both (On s) _ (on_halt s 14 (omega arith))
    (pick_both (On s) _ (on_halt s 15 (omega arith))
    (pick_both (On s) _ (pick_both (On s) _ (on_quiet s x) (on_halt s 24 (omega arith))) (on_word s _ x))))
    (stays s)

module _ (b : List ℕ) where
  after_place : (s : State) (bs : List ℕ) → (after b s bs).stop ≡ 0 → ((after b s bs).place ≡ s.place + length bs) × (s.stop ≡ 0)
  unfolding after step_on
  after_place s [] z = (omega arith, z)
  after_place s (x ∷ xs) z =
      let later = after_place (step_on b s x).state xs z in
      let one = on_step b _ s x later.1 in
      (omega (arith, later.0, one.0), one.1)

  abbrev At₀ : State → State → Type 0
  At₀ s t = t.stop ≡ 0 → (t.place ≡ s.place) × (s.stop ≡ 0)

  stopped : (s : State) (n : ℕ) → 0 < n → At₀ s (halted s n)
  unfolding halted
  stopped s n h z = absurd (omega arith)

  end_on_lem : (s : State) → At₀ s (end_on b s)
  unfolding end_on ended tally one_end
  end_on_lem s =
      pick_both (At₀ s) _
      (pick_both (At₀ s) _ (stopped s 15 (omega arith))
      (pick_both (At₀ s) _ (stopped s 15 (omega arith))
      (pick_both (At₀ s) _ (stopped s 8 (omega arith)) (pick_both (At₀ s) _ (λ z. (refl, z)) (stopped s 25 (omega arith))))))
      (λ z. (refl, z))

  end_place : (s : State) → At₀ s (ends b s)
  unfolding block_end end_gave unchanged
  end_place s = go (header_fault b)
    where
      go : (f : Result ⊤ Refusal) → At₀ s (checked f (fitb b s) s (end_gave b s)).state
      go (Err r) = λ z. (refl, z)
      go (Ok tt) = pick_both (λ (g : Gave State). At₀ s g.state) _ (end_on_lem s) (λ z. (refl, z))

  fresh_place : (opened b).place ≡ 0
  unfolding opened fresh
  fresh_place = go (header_fault b)
    where
      go : (f : Result ⊤ Refusal) → (opened_on f (code_of b)).place ≡ 0
      go (Err r) = refl
      go (Ok tt) = refl

  -- from the opening, as many as the blocks have
  pub traces_place : (blocks : List (List ℕ)) → (traces_after b blocks).stop ≡ 0 → (traces_after b blocks).place ≡ length (joined blocks)
  traces_place blocks z =
      let all = body_place (after b) (ends b) (λ (s : State). s.place) (λ (s : State). s.stop) after_place end_place (opened b) blocks z in
      omega (arith, all.0, fresh_place)
