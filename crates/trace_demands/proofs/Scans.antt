-- A body of scans is a body: it stops and is read in portions as any other.
-- Assumes nothing.
use Prim.Native.Nat.{ℕ, ◌*◌, ◌/◌, ◌%◌, ◌<◌}
use mathlib.Core.Path.{◌≡◌, refl, subst}
use mathlib.Core.Bool.{Bool, true, false}
use mathlib.Core.List.{List, [], ◌∷◌, ◌++◌}
use native.Mathlib.Omega.{arith}
use lib.Dec.{eqb, ltb}
use lib.ListN.{length}
use borrow.Author.Tests.{ltb-false, lt-ltb}
use Rattle.basis.specs.Choice.{pick}
use Rattle.basis.proofs.Choices.{pick_both}
use Rattle.refusals.specs.declared.Refusal.{Refusal}
use Rattle.refusals.specs.declared.Refusal.TheVariants as refusal
use Rattle.refusals.specs.Table.{stop_refusal}
use Rattle.scan.specs.declared.State.{State}
use Rattle.scan.specs.Fit.{fitb}
use Rattle.scan.specs.Step.{step, after, wrote, m_and_x, halted}
use Rattle.scan.proofs.Fold.{after_append, wrote_append}
use Rattle.stream.specs.declared.Gave.{Gave}
use Rattle.stream.specs.declared.Answer.TheVariants as answer
use Rattle.stream.specs.declared.Answer.TheVariants.{Stopped, Refused}
use Rattle.stream.specs.Calls.{portion, fit_portion, fed, portion_wrote, fit_wrote, answered, unchanged, samples_told, lacks_room}
use Rattle.stream.proofs.Cuts.{portion_fit, portion_state, portion_wrote_lem}
use Rattle.body.specs.Ends.{block_end, ended, one_end, due, close, finish}
use Rattle.body.proofs.BlockEnds.{end_fit}
use Rattle.trace_demands.specs.Bodies.{SameStop, Unmoved, NoTrace, Stopping, TwoAreOne, Portions}
use Rattle.trace_demands.specs.Instances.{scans, scan_stop}
use Rattle.trace_demands.proofs.Idles.{idle, kept_at, kept_clear, by_answer, no_stop, told_samples, two_more}
use Rattle.trace_demands.proofs.Outputs.{Counted, output, idle_counted, idle_two, fold_two}

-- ---- 1
-- the stop that a state keeps
abbrev stop_in : State → Refusal
stop_in s = stop_refusal s.stop s.stopat

module _ (s : State) where
  unmoved : fitb s ≡ false → Unmoved scans s
  unfolding portion portion_wrote block_end close unchanged pick
  unmoved f = idle scans s (Refused refusal.State) refusal.State (λ bs room. rw f) (λ bs room. rw f) (λ bs room. rw f) (rw f) (rw f) (rw f)

  stays : fitb s ≡ true → eqb s.stop 0 ≡ false → SameStop scans s (stop_in s)
  unfolding portion fit_portion portion_wrote fit_wrote block_end ended close finish answered pick
  stays f z =
      idle scans s (Stopped 0 (stop_in s)) (stop_in s) (λ bs room. rw (f, z)) (λ bs room. rw (f, z)) (λ bs room. rw (f, z)) (rw (f, z)) (rw (f, z)) (rw (f, z))

  no_room : (bs : List ℕ) (room : ℕ) → fitb s ≡ true → eqb s.stop 0 ≡ true → room < 2 * length bs → NoTrace scans s bs room
  unfolding portion fit_portion portion_wrote fit_wrote unchanged pick
  no_room bs room f z l = record {
    state = rw (f, z, lt-ltb room (2 * length bs) l);
    answer = rw (f, z, lt-ltb room (2 * length bs) l);
    writes = rw (f, z, lt-ltb room (2 * length bs) l);
  }

-- what an answer that stops says is what the state then keeps
abbrev Told : ℕ → Refusal → Gave State → Type 0
Told n r g = g.answer ≡ Stopped n r → (eqb g.state.stop 0 ≡ false) × (r ≡ stop_in g.state)

told_on : (s : State) (k n : ℕ) (r : Refusal) → Told n r (record { state = s; answer = answered s k })
unfolding answered
told_on s k n r e = by_answer (k / 2) n (stop_in s) r (eqb s.stop 0) e

told_off : (s : State) (x : Refusal) (n : ℕ) (r : Refusal) → Told n r (unchanged s x)
unfolding unchanged
told_off s x n r e = no_stop x r n e

portion_told : (s : State) (bs : List ℕ) (room n : ℕ) (r : Refusal) → Told n r (portion s bs room)
unfolding portion fit_portion fed
portion_told s bs room n r =
    pick_both (Told n r) _ (pick_both (Told n r) _ (pick_both (Told n r) _ (told_off s refusal.Room n r) (told_on (after s bs) (length (wrote s bs)) n r)) (told_on s 0 n r))
    (told_off s refusal.State n r)

end_told : (s : State) (n : ℕ) (r : Refusal) → Told n r (block_end s)
unfolding block_end ended one_end halted stop_refusal pick
end_told s n r =
    pick_both (Told n r) (fitb s)
    (pick_both (Told n r) (eqb s.stop 0)
    (pick_both (Told n r) (due s.shape.block (s.place / s.shape.scan) (s.place % s.shape.scan) s.ends)
    (λ e. let q : ◌≡◌ {A = ℕ} 0 1 = cc in absurd (omega arith))
    (λ e. (refl, cc)))
    (told_on s 0 n r))
    (told_off s refusal.State n r)

-- an answer that stops is that of a fit state
fit_given : (s : State) (g : Gave State) (n : ℕ) (r : Refusal) (t : Bool) → fitb s ≡ t → (pick t g (unchanged s refusal.State)).answer ≡ Stopped n r → fitb s ≡ true
unfolding unchanged pick
fit_given s g n r true f e = f
fit_given s g n r false f e = no_stop refusal.State r n e

stays_after_portion : (s : State) (bs : List ℕ) (room n : ℕ) (r : Refusal) → (portion s bs room).answer ≡ Stopped n r → SameStop scans (portion s bs room).state r
unfolding portion
stays_after_portion s bs room n r e =
    let g = portion_told s bs room n r e in
    rw g.1 (stays (portion s bs room).state (portion_fit s bs room (fit_given s (fit_portion s bs room) n r (fitb s) refl e)) g.0)

stays_after_end : (s : State) (n : ℕ) (r : Refusal) → (block_end s).answer ≡ Stopped n r → SameStop scans (block_end s).state r
unfolding block_end
stays_after_end s n r e =
    let g = end_told s n r e in
    rw g.1 (stays (block_end s).state (end_fit s (fit_given s (ended s) n r (fitb s) refl e)) g.0)

pub stopping : Stopping scans fitb scan_stop
stopping =
    record {
      stays_after_portion = stays_after_portion;
      stays_after_end = stays_after_end;
      stopped = λ s r f e. let q = kept_at (stop_in s) r (eqb s.stop 0) e in subst (SameStop scans s) q.1 (stays s f q.0);
      unfit = unmoved;
      room = λ s bs room f e l. no_room s bs room f (kept_clear (stop_in s) (eqb s.stop 0) e) l;
    }

-- ---- 3
even : (s : State) (bs : List ℕ) → length (wrote s bs) % 2 ≡ 0
unfolding wrote m_and_x
even s [] = refl
even s (b ∷ bs) = two_more (step s b).value (wrote (step s b).state bs) (even (step s b).state bs)

said : (s : State) (k : ℕ) → samples_told (answered s k) ≡ k / 2
unfolding answered
said s k = told_samples (eqb s.stop 0) (k / 2) (stop_in s)

fit_counts : (s : State) (bs : List ℕ) (room : ℕ) → fitb s ≡ true → Counted scans s bs room
unfolding portion fit_portion fed unchanged portion_wrote fit_wrote pick
fit_counts s bs room f = go (eqb s.stop 0) (ltb room (2 * length bs)) refl refl
  where
    go : (z l : Bool) → eqb s.stop 0 ≡ z → ltb room (2 * length bs) ≡ l → Counted scans s bs room
    go false l e h = rw (f, e, said s 0)
    go true true e h = rw (f, e, h)
    go true false e h = rw (f, e, h, said (after s bs) (length (wrote s bs))) (omega (arith, even s bs))

counts : (s : State) (bs : List ℕ) (room : ℕ) → Counted scans s bs room
counts s bs room = go (fitb s) refl
  where
    go : (t : Bool) → fitb s ≡ t → Counted scans s bs room
    go true f = fit_counts s bs room f
    go false f = idle_counted scans s refusal.State refusal.State (unmoved s f) bs room

two : (s : State) (a b : List ℕ) (m n l : ℕ) → lacks_room m (length a) ≡ false → lacks_room n (length b) ≡ false → lacks_room l (length (a ++ b)) ≡ false → TwoAreOne scans s a b m n l
two s a b m n l ha hb h = go (fitb s) refl
  where
    go : (t : Bool) → fitb s ≡ t → TwoAreOne scans s a b m n l
    go true f =
        fold_two scans fitb after wrote portion_fit (λ s bs room f e. portion_state s bs room (ltb-false room (2 * length bs) e) f)
        (λ s bs room f e. portion_wrote_lem s bs room (ltb-false room (2 * length bs) e) f) after_append wrote_append s f a b m n l ha hb h
    go false f = idle_two scans s (answer.Refused refusal.State) refusal.State (unmoved s f) a b m n l

pub portions : Portions scans
portions = record { cuts = two; seen = λ s bs out. output scans s bs out (counts s bs (length out)) }
