-- A trace body that has stopped stays so, and a call that answers with a stop leaves it stopped.
-- Assumes nothing.
use Rattle.std.specs.Prelude.{Err, Ok, Result, ⊤}
use Prim.Native.Nat.{ℕ, ◌*◌, ◌/◌, ◌<◌}
use mathlib.Core.Path.{◌≡◌, refl, sym, ap, subst, ◌∙◌}
use mathlib.Core.Bool.{Bool, true, false}
use mathlib.Core.List.{List}
use lib.Dec.{eqb}
use lib.ListN.{length}
use borrow.Author.Tests.{lt-ltb}
use Rattle.basis.specs.Choice.{pick}
use Rattle.basis.proofs.Choices.{pick_both}
use Rattle.refusals.specs.declared.Refusal.{Refusal}
use Rattle.refusals.specs.declared.Refusal.TheVariants as refusal
use Rattle.header.specs.Faults.{header_fault}
use Rattle.stream.specs.declared.Answer.TheVariants.{Stopped, Refused}
use Rattle.trace.specs.declared.State.{State}
use Rattle.stream.specs.declared.Gave.{Gave}
use Rattle.trace.specs.Step as S
use Rattle.trace.specs.Fit.{fitb}
use Rattle.trace.specs.Answers.{stop_of, answered, checked}
use Rattle.stream.specs.Calls.{unchanged}
use Rattle.trace_stream.specs.Calls.{portion, fit_portion, fed, portion_wrote, fit_wrote}
use Rattle.trace_body.specs.Ends.{end_on}
use Rattle.trace_body.specs.Calls.{block_end, end_gave, close, finish}
use Rattle.trace_agree.proofs.Laws.{end_stopped}
use Rattle.trace_agree.proofs.Public.{fit_portion_lem, fit_block_end}
use Rattle.trace_demands.specs.Bodies as bodies
use Rattle.trace_demands.specs.Bodies.{SameStop, Unmoved, NoTrace, Stopping}
use Rattle.trace_demands.specs.Instances.{traces, trace_stop}
use Rattle.trace_demands.proofs.Idles.{idle, kept_at, kept_clear, by_answer, no_stop}

-- ---- a header that is refused
pub refuses : (b : List ℕ) (r : Refusal) → header_fault b ≡ Err r → (s : State) → bodies.Refused (traces b) s r
unfolding portion portion_wrote block_end close unchanged
refuses b r e s = idle (traces b) s (Refused r) r (λ bs room. rw e) (λ bs room. rw e) (λ bs room. rw e) (rw e) (rw e) (rw e)

module _ (b : List ℕ) (clear : header_fault b ≡ Ok tt) (s : State) where
  -- ---- a state that is not fit for the block
  pub unmoved : fitb b s ≡ false → Unmoved (traces b) s
  unfolding portion portion_wrote block_end close unchanged pick
  unmoved f =
      idle (traces b) s (Refused refusal.State) refusal.State (λ bs room. rw (clear, f)) (λ bs room. rw (clear, f)) (λ bs room. rw (clear, f)) (rw (clear, f)) (rw (clear, f)) (rw (clear, f))

  -- ---- one that has stopped
  stays : fitb b s ≡ true → eqb s.stop 0 ≡ false → SameStop (traces b) s (stop_of b s)
  unfolding portion fit_portion portion_wrote fit_wrote block_end end_gave close finish answered pick
  stays f z =
      idle (traces b) s (Stopped 0 (stop_of b s)) (stop_of b s) (λ bs room. rw (clear, f, z)) (λ bs room. rw (clear, f, z)) (λ bs room. rw (clear, f, z))
      (rw (clear, f, end_stopped b s z)) (rw (clear, f, end_stopped b s z, z)) (rw (clear, f, z))

  -- ---- a portion without room
  no_room : (bs : List ℕ) (room : ℕ) → fitb b s ≡ true → eqb s.stop 0 ≡ true → room < 2 * length bs → NoTrace (traces b) s bs room
  unfolding portion fit_portion portion_wrote fit_wrote unchanged pick
  no_room bs room f z l = record {
    state = rw (clear, f, z, lt-ltb room (2 * length bs) l);
    answer = rw (clear, f, z, lt-ltb room (2 * length bs) l);
    writes = rw (clear, f, z, lt-ltb room (2 * length bs) l);
  }

-- ---- what an answer that stops says is what the state then keeps
module _ (b : List ℕ) where
  abbrev Told : ℕ → Refusal → Gave State → Type 0
  Told n r g = g.answer ≡ Stopped n r → (eqb g.state.stop 0 ≡ false) × (r ≡ stop_of b g.state)

  told_on : (s : State) (k n : ℕ) (r : Refusal) → Told n r (record { state = s; answer = answered b s k })
  unfolding answered
  told_on s k n r e = by_answer (k / 2) n (stop_of b s) r (eqb s.stop 0) e

  told_off : (s : State) (x : Refusal) (n : ℕ) (r : Refusal) → Told n r (unchanged s x)
  unfolding unchanged
  told_off s x n r e = no_stop x r n e

  told_portion : (s : State) (bs : List ℕ) (room n : ℕ) (r : Refusal) → Told n r (fit_portion b s bs room)
  unfolding fit_portion fed
  told_portion s bs room n r =
      pick_both (Told n r) _ (pick_both (Told n r) _ (told_off s refusal.Room n r) (told_on (S.after b s bs) (length (S.wrote b s bs)) n r)) (told_on s 0 n r)

  told_end : (s : State) (n : ℕ) (r : Refusal) → Told n r (end_gave b s)
  unfolding end_gave
  told_end s n r = told_on (end_on b s) 0 n r

  -- such an answer is that of an accepted header and a state fit for it
  pub record Given (s : State) (g h : Gave State) : Type 0 where
    pub clear : header_fault b ≡ Ok tt
    pub fit : fitb b s ≡ true
    pub gave : g ≡ h

  given : (s : State) (h : Gave State) (n : ℕ) (r : Refusal) (f : Result ⊤ Refusal) (t : Bool) → header_fault b ≡ f → fitb b s ≡ t
      → (checked f t s h).answer ≡ Stopped n r → Given s (checked f t s h) h
  unfolding unchanged pick
  given s h n r (Ok tt) true c f e = record { clear = c; fit = f; gave = refl }
  given s h n r (Ok tt) false c f e = no_stop refusal.State r n e
  given s h n r (Err x) t c f e = no_stop x r n e

  portion_given : (s : State) (bs : List ℕ) (room n : ℕ) (r : Refusal) → (portion b s bs room).answer ≡ Stopped n r → Given s (portion b s bs room) (fit_portion b s bs room)
  unfolding portion
  portion_given s bs room n r e = given s (fit_portion b s bs room) n r (header_fault b) (fitb b s) refl refl e

  pub stays_after_portion : (s : State) (bs : List ℕ) (room n : ℕ) (r : Refusal) → (portion b s bs room).answer ≡ Stopped n r → SameStop (traces b) (portion b s bs room).state r
  stays_after_portion s bs room n r e =
      let g = portion_given s bs room n r e in
      let w = told_portion s bs room n r (ap (λ (x : Gave State). x.answer) (sym g.gave) ∙ e) in
      let q : (portion b s bs room).state ≡ (fit_portion b s bs room).state = ap (λ (x : Gave State). x.state) g.gave in
      rw (w.1, ← q) (stays b g.clear (portion b s bs room).state (fit_portion_lem b g.clear s g.fit bs room) (rw q w.0))

  end_given : (s : State) (n : ℕ) (r : Refusal) → (block_end b s).answer ≡ Stopped n r → Given s (block_end b s) (end_gave b s)
  unfolding block_end
  end_given s n r e = given s (end_gave b s) n r (header_fault b) (fitb b s) refl refl e

  pub stays_after_end : (s : State) (n : ℕ) (r : Refusal) → (block_end b s).answer ≡ Stopped n r → SameStop (traces b) (block_end b s).state r
  stays_after_end s n r e =
      let g = end_given s n r e in
      let w = told_end s n r (ap (λ (x : Gave State). x.answer) (sym g.gave) ∙ e) in
      let q : (block_end b s).state ≡ (end_gave b s).state = ap (λ (x : Gave State). x.state) g.gave in
      rw (w.1, ← q) (stays b g.clear (block_end b s).state (fit_block_end b g.clear s g.fit) (rw q w.0))

  pub stopping : header_fault b ≡ Ok tt → Stopping (traces b) (fitb b) (trace_stop b)
  stopping clear =
      record {
        stays_after_portion = stays_after_portion;
        stays_after_end = stays_after_end;
        stopped = λ s r f e. let q = kept_at (stop_of b s) r (eqb s.stop 0) e in subst (SameStop (traces b) s) q.1 (stays b clear s f q.0);
        unfit = unmoved b clear;
        room = λ s bs room f e l. no_room b clear s bs room f (kept_clear (stop_of b s) (eqb s.stop 0) e) l;
      }
