-- What the loop of `feed` keeps, and where it ends.
-- Assumes nothing.
use Rattle.std.specs.Prelude.{Ok, None, Some}
use Prim.Native.Nat.{ℕ, ◌+◌, ◌*◌, ◌≤◌, ◌<◌}
use mathlib.Core.Path.{◌≡◌, refl, sym, ap, ◌∙◌}
use mathlib.Core.List.{List, [], ◌∷◌, ◌++◌, append_assoc, append-nil}
use native.Mathlib.Numerals.{add-one}
use native.Mathlib.Omega.{arith}
use lib.IntN.{ℤ}
use lib.ListN.{length, get_or, take, drop, set, length-set, drop_of_length-le, take-append-drop}
use lib.Seq.{length-take-le, drop-cons}
use Rattle.trace.specs.declared.State.{State}
use Rattle.words.specs.declared.Value.{Value}
use Rattle.scan.specs.declared.Stepped.{Stepped}
use Rattle.scan.specs.Step.{m_and_x}
use Rattle.trace.specs.Fit.{Fit}
use Rattle.codes.specs.Codes.{group_of}
use Rattle.header.specs.Faults.{header_fault}
use Rattle.trace.proofs.Facts.{group_some}
use Rattle.trace.specs.declared.Look.{Look}
use Rattle.trace.specs.Step.{look_by, look_at, step, step_on, after, wrote}
use Rattle.runs.specs.Runs.{over}
use Rattle.runs.proofs.Writes.{take_two, drop_two, further}
use Rattle.trace.proofs.Keep.{fit_step, ends_step}

-- At the head of the loop: i bytes are taken, n numbers are written, and what is to come from here is what is left of the whole.
pub record Going (b bs : List ℕ) (out₀ : List ℤ) (s : State) (out : List ℤ) (t : State) (n i : ℕ) : Type 0 where
  pub fit : Fit b t
  pub ends : t.ends ≡ s.ends
  pub in_bytes : i ≤ length bs
  pub in_out : n ≤ 2 * i
  pub same : length out ≡ length out₀
  pub state : after b t (drop i bs) ≡ after b s bs
  pub front : take n out ++ wrote b t (drop i bs) ≡ wrote b s bs
  pub back : drop n out ≡ drop n out₀

pub going_start : (b bs : List ℕ) (out : List ℤ) (s : State) → Fit b s → Going b bs out s out s 0 0
going_start b bs out s f = record { fit = f; ends = refl; in_bytes = omega arith; in_out = omega arith; same = refl; state = refl; front = refl; back = refl }

pair_none : (W : List ℤ) (r : Stepped State) → r.value ≡ None → W ++ m_and_x r ≡ W
unfolding m_and_x
pair_none W r q = rw (q, append-nil)

pair_some : (W : List ℤ) (r : Stepped State) (v : Value) → r.value ≡ Some v → W ++ m_and_x r ≡ W ++ (v.m ∷ v.x ∷ [])
unfolding m_and_x
pair_some W r v q = rw q

module _ (b bs : List ℕ) (out₀ : List ℤ) (s : State) (out : List ℤ) (t : State) (n i : ℕ) (r : Stepped State) where
  next_state : i < length bs → r ≡ step_on b t (get_or bs i 0) → after b t (drop i bs) ≡ after b s bs → after b r.state (drop (i + 1) bs) ≡ after b s bs
  unfolding after
  next_state h e g = rw (e, add-one) (rw (drop-cons bs i 0) at g)

  next_front : (W : List ℤ) → i < length bs → r ≡ step_on b t (get_or bs i 0) → W ++ wrote b t (drop i bs) ≡ wrote b s bs → (W ++ m_and_x r) ++ wrote b r.state (drop (i + 1) bs) ≡ wrote b s bs
  unfolding wrote
  next_front W h e g = rw (e, add-one, append_assoc) (rw (drop-cons bs i 0) at g)

  pub going_quiet : Going b bs out₀ s out t n i → i < length bs → r ≡ step_on b t (get_or bs i 0) → r.value ≡ None → Going b bs out₀ s out r.state n (i + 1)
  going_quiet g h e q =
      record {
        fit = rw e (fit_step b t (get_or bs i 0) g.fit);
        ends = rw e (ends_step b t (get_or bs i 0)) ∙ g.ends;
        in_bytes = omega arith;
        in_out = omega arith;
        same = g.same;
        state = next_state h e g.state;
        front = ap (λ (l : List ℤ). l ++ wrote b r.state (drop (i + 1) bs)) (sym (pair_none (take n out) r q)) ∙ next_front (take n out) h e g.front;
        back = g.back;
      }

  pub going_wrote : (v : Value) → Going b bs out₀ s out t n i → 2 * length bs ≤ length out₀ → i < length bs → r ≡ step_on b t (get_or bs i 0) → r.value ≡ Some v → Going b bs out₀ s (set (set out n v.m) (n + 1) v.x) r.state (n + 2) (i + 1)
  going_wrote v g room h e q =
      record {
        fit = rw e (fit_step b t (get_or bs i 0) g.fit);
        ends = rw e (ends_step b t (get_or bs i 0)) ∙ g.ends;
        in_bytes = omega arith;
        in_out = omega arith;
        same = simp length-set g.same;
        state = next_state h e g.state;
        front = ap (λ (l : List ℤ). l ++ wrote b r.state (drop (i + 1) bs)) (take_two out n v.m v.x (omega (arith, g.same)) ∙ sym (pair_some (take n out) r v q)) ∙ next_front (take n out) h e g.front;
        back = drop_two out n v.m v.x ∙ further n 2 out out₀ g.back;
      }

pub record Gone (b bs : List ℕ) (out₀ : List ℤ) (s : State) (out : List ℤ) (t : State) (n : ℕ) : Type 0 where
  pub state : t ≡ after b s bs
  pub count : n ≡ length (wrote b s bs)
  pub list : out ≡ over (wrote b s bs) out₀

pub going_end : (b bs : List ℕ) (out₀ : List ℤ) (s : State) (out : List ℤ) (t : State) (n i : ℕ) → Going b bs out₀ s out t n i → 2 * length bs ≤ length out₀ → length bs ≤ i → Gone b bs out₀ s out t n
unfolding after wrote over
going_end b bs out₀ s out t n i g room h =
    let all : drop i bs ≡ [] = drop_of_length-le bs h in
    let w : take n out ≡ wrote b s bs = sym (append-nil (take n out)) ∙ (rw all at g.front) in
    let l : n ≡ length (wrote b s bs) = sym (length-take-le n out (omega (arith, g.same))) ∙ ap length w in
    record {
      state = rw all at g.state;
      count = l;
      list = rw (← w, length-take-le n out (omega (arith, g.same)), ← g.back, take-append-drop);
    }

-- a byte's step by what the header said of the trace at the portion's start
pub by_look : (b : List ℕ) (k : Look) (s t : State) (x : ℕ) (r : Stepped State) → k ≡ look_at b s.ends → t.ends ≡ s.ends → r ≡ step b k t x → r ≡ step_on b t x
unfolding step_on
by_look b k s t x r q h e = e ∙ ap (λ (y : Look). step b y t x) (q ∙ ap (look_at b) (sym h))

pub group_look : (b : List ℕ) (k : Look) (i : ℕ) (t : State) → k ≡ look_at b i → Fit b t → group_of t.code ≡ k.group
unfolding look_at look_by
group_look b k i t q f = ap group_of f.code ∙ sym (ap (λ (y : Look). y.group) q)

pub look_some : (b : List ℕ) (k : Look) (i : ℕ) → k ≡ look_at b i → header_fault b ≡ Ok tt → 0 < k.group
unfolding look_at look_by
look_some b k i q e = rw q (group_some b e)
