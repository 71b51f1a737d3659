-- What the loop of `feed` keeps, and where it ends.
-- Assumes nothing.
use Rattle.std.proofs.Common.{◌≡◌, ℕ, ◌+◌, ◌*◌, ◌<◌, ◌≤◌, List, [], ◌∷◌, ◌++◌, length, get_or, take, drop, set, ℤ, sym, refl, ap, ◌∙◌, append_assoc, append-nil, add-one, arith, length-append, length-drop, length-set, take-append-drop, drop_of_length-le, length-take-le, drop-cons, drop-drop, take_at, drop_at}
use Rattle.scan.specs.declared.State.{State}
use Rattle.scan.specs.declared.Stepped.{Stepped}
use Rattle.std.specs.Prelude.{None, Some}
use Rattle.words.specs.declared.Value.{Value}
use Rattle.scan.specs.Fit.{Fit}
use Rattle.scan.specs.Step.{step, after, wrote, m_and_x}
use Rattle.runs.specs.Runs.{over}
use Rattle.runs.proofs.Writes.{take_two, drop_two, further}
use Rattle.scan.proofs.Keep.{fit_step, fit_after, shape_step, shape_after}
use Rattle.scan.proofs.Fold.{after_append, wrote_append, wrote_length}

-- At the head of the loop: i bytes are taken, n numbers are written, and what is to come from here is what is left of the whole.
pub record Going (bs : List ℕ) (out₀ : List ℤ) (s : State) (out : List ℤ) (t : State) (n i : ℕ) : Type 0 where
  pub fit : Fit t
  pub shape : t.shape ≡ s.shape
  pub in_bytes : i ≤ length bs
  pub in_out : n ≤ 2 * i
  pub same : length out ≡ length out₀
  pub state : after t (drop i bs) ≡ after s bs
  pub front : take n out ++ wrote t (drop i bs) ≡ wrote s bs
  pub back : drop n out ≡ drop n out₀

pub going_start : (bs : List ℕ) (out : List ℤ) (s : State) → Fit s → Going bs out s out s 0 0
going_start bs out s f = record { fit = f; shape = refl; in_bytes = omega arith; in_out = omega arith; same = refl; state = refl; front = refl; back = refl }

pair_none : (W : List ℤ) (r : Stepped State) → r.value ≡ None → W ++ m_and_x r ≡ W
unfolding m_and_x
pair_none W r q = rw (q, append-nil)

pair_some : (W : List ℤ) (r : Stepped State) (v : Value) → r.value ≡ Some v → W ++ m_and_x r ≡ W ++ (v.m ∷ v.x ∷ [])
unfolding m_and_x
pair_some W r v q = rw q

module _ (bs : List ℕ) (out₀ : List ℤ) (s : State) (out : List ℤ) (t : State) (n i : ℕ) (r : Stepped State) where
  next_state : i < length bs → r ≡ step t (get_or bs i 0) → after t (drop i bs) ≡ after s bs → after r.state (drop (i + 1) bs) ≡ after s bs
  unfolding after
  next_state h e g = rw (e, add-one) (rw (drop-cons bs i 0) at g)

  next_front : (W : List ℤ) → i < length bs → r ≡ step t (get_or bs i 0) → W ++ wrote t (drop i bs) ≡ wrote s bs → (W ++ m_and_x r) ++ wrote r.state (drop (i + 1) bs) ≡ wrote s bs
  unfolding wrote
  next_front W h e g = rw (e, add-one, append_assoc) (rw (drop-cons bs i 0) at g)

  pub going_quiet : Going bs out₀ s out t n i → i < length bs → r ≡ step t (get_or bs i 0) → r.value ≡ None → Going bs out₀ s out r.state n (i + 1)
  going_quiet g h e q =
      record {
        fit = rw e (fit_step t (get_or bs i 0) g.fit);
        shape = rw e (shape_step t (get_or bs i 0)) ∙ g.shape;
        in_bytes = omega arith;
        in_out = omega arith;
        same = g.same;
        state = next_state h e g.state;
        front = ap (λ (l : List ℤ). l ++ wrote r.state (drop (i + 1) bs)) (sym (pair_none (take n out) r q)) ∙ next_front (take n out) h e g.front;
        back = g.back;
      }

  pub going_wrote : (v : Value) → Going bs out₀ s out t n i → 2 * length bs ≤ length out₀ → i < length bs → r ≡ step t (get_or bs i 0) → r.value ≡ Some v → Going bs out₀ s (set (set out n v.m) (n + 1) v.x) r.state (n + 2) (i + 1)
  going_wrote v g room h e q =
      record {
        fit = rw e (fit_step t (get_or bs i 0) g.fit);
        shape = rw e (shape_step t (get_or bs i 0)) ∙ g.shape;
        in_bytes = omega arith;
        in_out = omega arith;
        same = simp length-set g.same;
        state = next_state h e g.state;
        front = ap (λ (l : List ℤ). l ++ wrote r.state (drop (i + 1) bs)) (take_two out n v.m v.x (omega (arith, g.same)) ∙ sym (pair_some (take n out) r v q)) ∙ next_front (take n out) h e g.front;
        back = drop_two out n v.m v.x ∙ further n 2 out out₀ g.back;
      }

pub record Gone (bs : List ℕ) (out₀ : List ℤ) (s : State) (out : List ℤ) (t : State) (n : ℕ) : Type 0 where
  pub state : t ≡ after s bs
  pub count : n ≡ length (wrote s bs)
  pub list : out ≡ over (wrote s bs) out₀

pub going_end : (bs : List ℕ) (out₀ : List ℤ) (s : State) (out : List ℤ) (t : State) (n i : ℕ) → Going bs out₀ s out t n i → 2 * length bs ≤ length out₀ → length bs ≤ i → Gone bs out₀ s out t n
unfolding after wrote over
going_end bs out₀ s out t n i g room h =
    let all : drop i bs ≡ [] = drop_of_length-le bs h in
    let w : take n out ≡ wrote s bs = sym (append-nil (take n out)) ∙ (rw all at g.front) in
    let l : n ≡ length (wrote s bs) = sym (length-take-le n out (omega (arith, g.same))) ∙ ap length w in
    record {
      state = rw all at g.state;
      count = l;
      list = rw (← w, length-take-le n out (omega (arith, g.same)), ← g.back, take-append-drop);
    }

-- some bytes at once
module _ (bs : List ℕ) (out₀ : List ℤ) (s : State) (out : List ℤ) (t : State) (n i k : ℕ) (g : Going bs out₀ s out t n i) (room : 2 * length bs ≤ length out₀) (h : i + k ≤ length bs) where
  abbrev chunk : List ℕ
  chunk = take k (drop i bs)

  split : chunk ++ drop (i + k) bs ≡ drop i bs
  split = rw (← drop-drop k i bs, take-append-drop)

  chunk_length : length chunk ≡ k
  chunk_length = length-take-le k (drop i bs) (simp length-drop (omega arith))

  abbrev W : List ℤ
  W = wrote t chunk

  W-length : length W ≤ 2 * k
  W-length = rw chunk_length at (wrote_length t chunk)

  head_length : length (take n out ++ W) ≡ n + length W
  head_length = rw (length-append, length-take-le n out (omega (arith, g.same, g.in_out)))

  joined : take n out ++ over W (drop n out) ≡ (take n out ++ W) ++ drop (length W) (drop n out)
  unfolding over
  joined = rw append_assoc

  tail_same : drop (length W) (drop n out) ≡ drop (n + length W) out₀
  tail_same = rw (drop-drop (length W) n out) (further n (length W) out out₀ g.back)

  chunk_front : (take n out ++ W) ++ wrote (after t chunk) (drop (i + k) bs) ≡ wrote s bs
  chunk_front =
      append_assoc (take n out) W (wrote (after t chunk) (drop (i + k) bs))
      ∙ ap (λ (l : List ℤ). take n out ++ l) (sym (wrote_append t chunk (drop (i + k) bs)) ∙ ap (λ (l : List ℕ). wrote t l) split)
      ∙ g.front

  chunk_state : after (after t chunk) (drop (i + k) bs) ≡ after s bs
  chunk_state = sym (after_append t chunk (drop (i + k) bs)) ∙ ap (λ (l : List ℕ). after t l) split ∙ g.state

  chunk_same : length ((take n out ++ W) ++ drop (length W) (drop n out)) ≡ length out₀
  chunk_same = rw (length-append, head_length, length-drop, length-drop) (omega (arith, g.same, g.in_out, W-length))

  pub going_chunk : (t' : State) (m : ℕ) (out' : List ℤ) → t' ≡ after t (take k (drop i bs)) → m ≡ length (wrote t (take k (drop i bs))) → out' ≡ take n out ++ over (wrote t (take k (drop i bs))) (drop n out) → Going bs out₀ s out' t' (n + m) (i + k)
  going_chunk t' m out' et em eo =
      let hl = head_length in
      record {
        fit = rw et (fit_after t chunk g.fit);
        shape = rw et (shape_after t chunk) ∙ g.shape;
        in_bytes = h;
        in_out = omega (arith, g.in_out, W-length);
        same = rw (eo, joined) chunk_same;
        state = rw et chunk_state;
        front = rw (et, em, eo, joined, take_at (take n out ++ W) (drop (length W) (drop n out)) (n + length W) head_length) chunk_front;
        back = rw (em, eo, joined, drop_at (take n out ++ W) (drop (length W) (drop n out)) (n + length W) head_length) tail_same;
      }
