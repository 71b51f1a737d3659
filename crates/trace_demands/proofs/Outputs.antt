-- What a portion is seen to write, of any body: two portions write what the one does, and the caller's output holds as many samples as were answered.
-- Assumes nothing.
use Prim.Native.Nat.{ℕ, ◌*◌}
use mathlib.Core.Path.{◌≡◌}
use mathlib.Core.Bool.{Bool, true, false}
use mathlib.Core.List.{List, ◌++◌}
use native.Mathlib.Omega.{arith}
use lib.IntN.{ℤ}
use lib.ListN.{length, take, drop}
use lib.Seq.{take_all, take-append-le, drop_at}
use Rattle.refusals.specs.declared.Refusal.{Refusal}
use Rattle.runs.specs.Runs.{over}
use Rattle.stream.specs.declared.Answer.{Answer}
use Rattle.stream.specs.declared.Answer.TheVariants as answer
use Rattle.stream.specs.Calls.{samples_told, lacks_room}
use Rattle.trace_demands.specs.Bodies.{Calls, Idle, TwoAreOne, Output}

front : (w out : List ℤ) (n : ℕ) → length w ≡ n → take n (over w out) ≡ w
unfolding over
front w out n e = rw (take-append-le n w (drop (length w) out) (omega (arith, e))) (take_all n w (omega (arith, e)))

back : (w out : List ℤ) (n : ℕ) → length w ≡ n → drop n (over w out) ≡ drop n out
unfolding over
back w out n e = rw (drop_at w (drop (length w) out) n e, e)

module _ {S : Type 0} (k : Calls S) where
  -- as many numbers as the samples answered, two each
  abbrev pub Counted : S → List ℕ → ℕ → Type 0
  Counted s bs room = length (k.written s bs room) ≡ 2 * samples_told (k.answered s bs room)

  pub output : (s : S) (bs : List ℕ) (out : List ℤ) → Counted s bs (length out) → Output k s bs out
  output s bs out e = record { front = front (k.written s bs (length out)) out _ e; rest = back (k.written s bs (length out)) out _ e }

  -- ---- a state that no call changes
  pub idle_counted : (s : S) (x r : Refusal) → Idle k s (answer.Refused x) r → (bs : List ℕ) (room : ℕ) → Counted s bs room
  idle_counted s x r i bs room = rw (i.writes bs room, i.answers bs room)

  pub idle_two : (s : S) (y : Answer) (r : Refusal) → Idle k s y r → (a b : List ℕ) (m n l : ℕ) → TwoAreOne k s a b m n l
  idle_two s y r i a b m n l = record {
    state = rw (i.portions a m, i.portions b n, i.portions (a ++ b) l);
    samples = rw (i.portions a m, i.writes a m, i.writes b n, i.writes (a ++ b) l);
  }

  -- ---- one whose portions are folds over their bytes
  module _ (fits : S → Bool) (after : S → List ℕ → S) (wrote : S → List ℕ → List ℤ)
      (keeps : (s : S) (bs : List ℕ) (room : ℕ) → fits s ≡ true → fits (k.portion s bs room) ≡ true)
      (state : (s : S) (bs : List ℕ) (room : ℕ) → fits s ≡ true → lacks_room room (length bs) ≡ false → k.portion s bs room ≡ after s bs)
      (samples : (s : S) (bs : List ℕ) (room : ℕ) → fits s ≡ true → lacks_room room (length bs) ≡ false → k.written s bs room ≡ wrote s bs)
      (after_append : (s : S) (a b : List ℕ) → after s (a ++ b) ≡ after (after s a) b)
      (wrote_append : (s : S) (a b : List ℕ) → wrote s (a ++ b) ≡ wrote s a ++ wrote (after s a) b) where
    pub fold_two : (s : S) → fits s ≡ true → (a b : List ℕ) (m n l : ℕ) → lacks_room m (length a) ≡ false → lacks_room n (length b) ≡ false → lacks_room l (length (a ++ b)) ≡ false
        → TwoAreOne k s a b m n l
    fold_two s f a b m n l ha hb h = record {
      state = rw (state (k.portion s a m) b n (keeps s a m f) hb, state s a m f ha, state s (a ++ b) l f h, after_append s a b);
      samples = rw (samples (k.portion s a m) b n (keeps s a m f) hb, samples s a m f ha, state s a m f ha, samples s (a ++ b) l f h, wrote_append s a b);
    }
