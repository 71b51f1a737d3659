-- Cutting the bytes into portions changes nothing, and every state that a portion gives is fit.
-- Assumes nothing.
use Rattle.std.proofs.Common.{◌≡◌, ℕ, ◌*◌, ◌/◌, ◌<◌, ◌≤◌, true, false, eqb, List, ◌++◌, length, ℤ, sym, arith, le-ltb, lt-ltb}
use Rattle.basis.specs.Choice.{pick}
use Rattle.basis.proofs.Choices.{pick_both}
use Rattle.scan.specs.declared.State.{State}
use Rattle.scan.specs.Fit.{fitb}
use Rattle.scan.specs.Step.{after, wrote}
use Rattle.scan.proofs.Choices.{pick_cases}
use Rattle.scan.proofs.Shapes.{fit_of, of_fit}
use Rattle.scan.proofs.Keep.{fit_after}
use Rattle.scan.proofs.Fold.{after_append, wrote_append, after_stopped, wrote_stopped}
use Rattle.stream.specs.declared.Gave.{Gave}
use Rattle.stream.specs.Calls.{portion, fit_portion, fit_wrote, fed, portion_wrote, unchanged, lacks_room}

-- the code halves the room, so that nothing can wrap
pub room_short : (room n : ℕ) → room / 2 < n → lacks_room room n ≡ true
room_short room n h = lt-ltb room (2 * n) (omega (arith, h))

pub room_enough : (room n : ℕ) → n ≤ room / 2 → lacks_room room n ≡ false
room_enough room n h = le-ltb room (2 * n) (omega (arith, h))

-- a portion with room enough, from a fit state, is the fold over its bytes
module _ (s : State) (bs : List ℕ) (room : ℕ) (r : 2 * length bs ≤ room) where
  fit_state : (fit_portion s bs room).state ≡ after s bs
  unfolding fit_portion fed pick
  fit_state =
      pick_cases (λ (g : Gave State). g.state ≡ after s bs) (eqb s.stop 0) (λ e. rw (le-ltb room (2 * length bs) r)) (λ e. sym (after_stopped s bs e))

  fit_wrote_lem : fit_wrote s bs room ≡ wrote s bs
  unfolding fit_wrote pick
  fit_wrote_lem =
      pick_cases (λ (l : List ℤ). l ≡ wrote s bs) (eqb s.stop 0) (λ e. rw (le-ltb room (2 * length bs) r)) (λ e. sym (wrote_stopped s bs e))

  pub portion_state : fitb s ≡ true → (portion s bs room).state ≡ after s bs
  unfolding portion pick
  portion_state f = rw f fit_state

  pub portion_wrote_lem : fitb s ≡ true → portion_wrote s bs room ≡ wrote s bs
  unfolding portion_wrote pick
  portion_wrote_lem f = rw f fit_wrote_lem

-- two portions are one
module _ (s : State) (a b : List ℕ) (f : fitb s ≡ true) (ra rb r : ℕ) (ha : 2 * length a ≤ ra) (hb : 2 * length b ≤ rb) (h : 2 * length (a ++ b) ≤ r) where
  fit_first : fitb (portion s a ra).state ≡ true
  fit_first = rw (portion_state s a ra ha f) (of_fit (after s a) (fit_after s a (fit_of s f)))

  pub cut_state : (portion (portion s a ra).state b rb).state ≡ (portion s (a ++ b) r).state
  cut_state = rw (portion_state (portion s a ra).state b rb hb fit_first, portion_state s a ra ha f, portion_state s (a ++ b) r h f, after_append s a b)

  pub cut_wrote : portion_wrote s a ra ++ portion_wrote (portion s a ra).state b rb ≡ portion_wrote s (a ++ b) r
  cut_wrote = rw (portion_wrote_lem (portion s a ra).state b rb hb fit_first, portion_wrote_lem s a ra ha f, portion_state s a ra ha f, portion_wrote_lem s (a ++ b) r h f, wrote_append s a b)

-- what a portion gives back of a fit state is fit, whatever it answers
pub portion_fit : (s : State) (bs : List ℕ) (room : ℕ) → fitb s ≡ true → fitb (portion s bs room).state ≡ true
unfolding portion fit_portion fed unchanged
portion_fit s bs room f =
    let P : Gave State → Type 0 = λ g. fitb g.state ≡ true in
    pick_both P _ (pick_both P _ (pick_both P _ f (of_fit (after s bs) (fit_after s bs (fit_of s f)))) f) f
