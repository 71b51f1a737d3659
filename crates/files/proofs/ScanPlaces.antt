-- Where a body of scans stands that has not stopped: as many bytes on as it was given.
-- Assumes nothing.
use Rattle.std.specs.Prelude.{Ok}
use Prim.Native.Nat.{ℕ, ◌+◌, ◌<◌}
use mathlib.Core.Path.{◌≡◌, refl}
use mathlib.Core.Bool.{false}
use mathlib.Core.List.{List, [], ◌∷◌}
use native.Mathlib.Omega.{arith}
use borrow.Author.Tests.{eqb-false}
use lib.Dec.{eqb}
use lib.ListN.{length}
use Rattle.basis.proofs.Choices.{pick_both}
use Rattle.scan.specs.declared.State.{State}
use Rattle.scan.specs.declared.Track.{Track}
use Rattle.scan.specs.declared.Stepped.{Stepped}
use Rattle.scan.specs.Step.{still, halted, halt, moved, moved_by, quiet, sync, start, phase, time, sample, plain, grouped, word, step, after}
use Rattle.words.specs.declared.Value.{Value}
use Rattle.scan.proofs.Choices.{pick_cases}
use Rattle.header.specs.declared.Header.{Header}
use Rattle.stream.specs.declared.Gave.{Gave}
use Rattle.body.specs.Open.{opened, fresh}
use Rattle.body.proofs.Opens.{opens_scans}
use Rattle.stream.specs.Calls.{unchanged}
use Rattle.body.specs.Ends.{one_end, ended, block_end}
use Rattle.framing.specs.Cuts.{joined}
use Rattle.general.specs.General.{code_of}
use Rattle.header.specs.Answers.{header_answer}
use Rattle.files.proofs.Blocks.{state_after, body_place}
use Rattle.files.proofs.Scans.{ends}

-- unless it stops, one byte on
abbrev On : State → Stepped State → Type 0
On s r = r.state.stop ≡ 0 → (r.state.place ≡ s.place + 1) × (s.stop ≡ 0)

on_moved : (s : State) (k : Track) (e off b : ℕ) → On s (still (moved s k e off b))
unfolding still moved moved_by
on_moved s k e off b z = (refl, z)

on_halt : (s : State) (n : ℕ) → 0 < n → On s (halt s n)
unfolding halt still halted
on_halt s n h z = absurd (omega arith)

on_quiet : (s : State) (b : ℕ) → On s (quiet s b)
unfolding quiet
on_quiet s b = on_moved s _ _ _ b

on_sync : (s : State) (b : ℕ) → On s (sync s b)
unfolding sync
on_sync s b = pick_both (On s) _ (on_quiet s b) (on_halt s 16 (omega arith))

on_sample : (s : State) (w : Value) (b : ℕ) → On s (sample s w b)
unfolding sample moved moved_by
on_sample s w b z = (refl, z)

on_word : (s : State) (b q : ℕ) → On s (word s b q)
unfolding word grouped plain
on_word s b q =
    pick_both (On s) _
    (pick_both (On s) _ (on_quiet s b) (pick_both (On s) _ (on_moved s _ _ _ b) (on_sample s _ b)))
    (pick_both (On s) _ (on_sample s _ b) (on_quiet s b))

stays : (s : State) → eqb s.stop 0 ≡ false → On s (still s)
unfolding still
stays s u z = absurd (eqb-false s.stop 0 u z)

on_step : (s : State) (b : ℕ) → On s (step s b)
unfolding step start phase time
on_step s b =
    pick_cases (On s) (eqb s.stop 0)
    (λ u. pick_both (On s) _ (on_halt s 14 (omega arith))
    (pick_both (On s) _ (pick_both (On s) _ (on_halt s 15 (omega arith)) (on_sync s b))
    (pick_both (On s) _ (on_sync s b)
    (pick_both (On s) _ (pick_both (On s) _ (pick_both (On s) _ (on_moved s _ _ _ b) (on_halt s 18 (omega arith))) (on_halt s 16 (omega arith)))
    (pick_both (On s) _ (on_quiet s b)
    (pick_both (On s) _ (pick_both (On s) _ (on_moved s _ _ _ b) (on_halt s 17 (omega arith))) (on_word s b _)))))))
    (stays s)

after_place : (s : State) (bs : List ℕ) → (after s bs).stop ≡ 0 → ((after s bs).place ≡ s.place + length bs) × (s.stop ≡ 0)
unfolding after
after_place s [] z = (omega arith, z)
after_place s (b ∷ bs) z =
    let later = after_place (step s b).state bs z in
    let one = on_step s b later.1 in
    (omega (arith, later.0, one.0), one.1)

end_place : (s : State) → (block_end s).state.stop ≡ 0 → ((block_end s).state.place ≡ s.place) × (s.stop ≡ 0)
unfolding block_end ended unchanged one_end halted
end_place s =
    pick_both At _ (pick_both At _ (pick_both At _ (λ z. (refl, z)) (λ z. absurd (omega arith))) (λ z. (refl, z))) (λ z. (refl, z))
  where
    At : Gave State → Type 0
    At g = g.state.stop ≡ 0 → (g.state.place ≡ s.place) × (s.stop ≡ 0)

fresh_place : (b : List ℕ) (h : Header) → header_answer b ≡ Ok h → code_of b < 0x8000 → (opened b).state.place ≡ 0
unfolding fresh
fresh_place b h e m = rw (opens_scans b h e m)

-- from the opening, as many as the blocks have
pub scans_place : (b : List ℕ) (h : Header) → header_answer b ≡ Ok h → code_of b < 0x8000 → (blocks : List (List ℕ))
    → (state_after after ends (opened b).state blocks).stop ≡ 0 → (state_after after ends (opened b).state blocks).place ≡ length (joined blocks)
scans_place b h e m blocks z =
    let start : (opened b).state.place ≡ 0 = fresh_place b h e m in
    let all = body_place after ends (λ (s : State). s.place) (λ (s : State). s.stop) after_place end_place (opened b).state blocks z in
    omega (arith, all.0, start)
