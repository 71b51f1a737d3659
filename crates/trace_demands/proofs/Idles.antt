-- What holds of any body: a state that no call changes stays as it is, however many calls there are; and what an answer or a kept stop says of its test.
-- Assumes nothing.
use Rattle.std.specs.Prelude.{Err, Ok, Result, ⊤, Option, Some, None}
use Prim.Native.Nat.{ℕ, ◌%◌}
use mathlib.Core.Path.{◌≡◌, refl}
use mathlib.Core.Bool.{Bool, true, false}
use mathlib.Core.List.{List, [], ◌∷◌, ◌++◌, append-nil}
use native.Mathlib.Omega.{arith}
use lib.IntN.{ℤ}
use lib.ListN.{length}
use Rattle.basis.specs.Choice.{pick}
use Rattle.refusals.specs.declared.Refusal.{Refusal}
use Rattle.stream.specs.declared.Answer.{Answer}
use Rattle.stream.specs.declared.Answer.TheVariants.{GoingOn, Stopped, Refused}
use Rattle.stream.specs.Calls.{samples_told}
use Rattle.agree.specs.Calls.{Call, put, end}
use Rattle.trace_demands.specs.Bodies.{Calls, read_on, Idle}
use Rattle.words.specs.declared.Value.{Value}
use Rattle.scan.specs.Step.{m_then_x}

module _ {S : Type 0} (k : Calls S) (s : S) (a : Answer) (r : Refusal) (p : (bs : List ℕ) (room : ℕ) → k.portion s bs room ≡ s) (q : (bs : List ℕ) (room : ℕ) → k.answered s bs room ≡ a)
    (w : (bs : List ℕ) (room : ℕ) → k.written s bs room ≡ []) (e : k.ended s ≡ s) (f : k.end_answered s ≡ a) (c : k.closed s ≡ Err r) where
  forever : (n : List ℤ) (cs : List Call) → read_on k (record { state = s; numbers = n }) cs ≡ record { state = s; numbers = n }
  forever n [] = refl
  forever n (put bs room ∷ cs) = rw (p bs room, w bs room, append-nil n) (forever n cs)
  forever n (end ∷ cs) = rw e (forever n cs)

  pub idle : Idle k s a r
  idle = record { portions = p; answers = q; writes = w; ends = e; end_answers = f; closes = c; forever = forever }

-- ---- a stop that is kept, and an answer that tells it
pub kept_at : (x r : Refusal) (t : Bool) → ◌≡◌ {A = Result ⊤ Refusal} (pick t (Ok tt) (Err x)) (Err r) → (t ≡ false) × (x ≡ r)
unfolding pick
kept_at x r true e = let q : ◌≡◌ {A = ℕ} 0 1 = cc in absurd (omega arith)
kept_at x r false e = (refl, cc)

pub kept_clear : (x : Refusal) (t : Bool) → ◌≡◌ {A = Result ⊤ Refusal} (pick t (Ok tt) (Err x)) (Ok tt) → t ≡ true
unfolding pick
kept_clear x true e = refl
kept_clear x false e = let q : ◌≡◌ {A = ℕ} 0 1 = cc in absurd (omega arith)

pub by_answer : (m n : ℕ) (x r : Refusal) (t : Bool) → pick t (GoingOn m) (Stopped m x) ≡ Stopped n r → (t ≡ false) × (r ≡ x)
unfolding pick
by_answer m n x r true e = let q : ◌≡◌ {A = ℕ} 0 1 = cc in absurd (omega arith)
by_answer m n x r false e = (refl, cc)

pub no_stop : {A : Type 0} (x r : Refusal) (n : ℕ) → Refused x ≡ Stopped n r → A
no_stop x r n e = let q : ◌≡◌ {A = ℕ} 0 1 = cc in absurd (omega arith)

-- ---- samples, M and X each
pub told_samples : (t : Bool) (n : ℕ) (x : Refusal) → samples_told (pick t (GoingOn n) (Stopped n x)) ≡ n
unfolding pick
told_samples true n x = refl
told_samples false n x = refl

pub two_more : (v : Option Value) (w : List ℤ) → length w % 2 ≡ 0 → length (m_then_x v ++ w) % 2 ≡ 0
two_more (Some v) w e = omega (arith, e)
two_more None w e = e
