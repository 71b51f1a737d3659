-- The samples of a trace body, one by one: lists of lists of two, one after another.
-- Assumes nothing.
use Rattle.std.specs.Prelude.{Err, Ok, Result, ⊤}
use Prim.Native.Nat.{ℕ, zero, suc, ◌+◌, ◌*◌, ◌≤◌, ◌<◌}
use mathlib.Core.Path.{◌≡◌, refl, ap, ◌∙◌}
use mathlib.Core.Logic.{⊎_elim}
use mathlib.Core.List.{List, ◌++◌}
use native.Mathlib.Nat.{eq-or-lt_of_le}
use native.Mathlib.Omega.{arith}
use lib.IntN.{ℤ}
use lib.ListN.{length, take, drop, length-append, length-drop}
use lib.Seq.{take_all, take-append-le, drop-append-le, drop-append-add}
use Rattle.basis.specs.Upto.{upto, sum_upto, list_upto}
use Rattle.refusals.proofs.Clears.{both_clear}
use Rattle.general.specs.General.{code_of}
use Rattle.rules.specs.Tape.{Body, ends, start_of, byte_at}
use Rattle.rules.specs.Outcome.{Report, report, answered}
use Rattle.rules.proofs.Tapes.{byte_in_lem}
use Rattle.trace_rules.specs.Samples.{value_at, numbers_at}
use Rattle.trace_rules.specs.Outcome.{numbers_in, done_of, stop_of, report_of, closing_fault, closing}
use Rattle.trace_demands.specs.TraceDemand3.{bytes_read, done_there, InOrder}
use Rattle.refusals.specs.declared.Refusal.{Refusal}

-- ---- lists one after another, list k of 2 g k
module _ {A : Type 0} (f : ℕ → List A) (g : ℕ → ℕ) (twice : (k : ℕ) → length (f k) ≡ 2 * g k) where
  pub all_length : (n : ℕ) → length (list_upto f n) ≡ 2 * sum_upto g n
  unfolding upto
  all_length zero = refl
  all_length (suc n) = length-append (list_upto f n) (f n) ∙ omega (arith, all_length n, twice n)

  -- two of list k are the same two of all
  last : (n i : ℕ) → take 2 (drop (2 * (sum_upto g n + i)) (list_upto f n ++ f n)) ≡ take 2 (drop (2 * i) (f n))
  last n i =
      let e : 2 * (sum_upto g n + i) ≡ length (list_upto f n) + 2 * i = omega (arith, all_length n) in
      rw (e, drop-append-add (list_upto f n) (f n) (2 * i))

  earlier : (n m : ℕ) → m + 2 ≤ length (list_upto f n) → take 2 (drop m (list_upto f n ++ f n)) ≡ take 2 (drop m (list_upto f n))
  earlier n m h =
      rw (drop-append-le m (list_upto f n) (f n) (omega (arith, h))) (take-append-le 2 (drop m (list_upto f n)) (f n) (simp length-drop (omega (arith, h))))

  inside : (k i n : ℕ) → k < n → i < g k → sum_upto g k + i < sum_upto g n
  unfolding upto
  inside k i zero h l = absurd (omega arith)
  inside k i (suc n) h l = ⊎_elim (λ (e : k ≡ n). rw e (omega (arith, ap g e, l))) (λ (u : k < n). omega (arith, inside k i n u l)) (eq-or-lt_of_le (let q : k ≤ n = omega arith in q))

  pub two_at : (k i n : ℕ) → k < n → i < g k → take 2 (drop (2 * (sum_upto g k + i)) (list_upto f n)) ≡ take 2 (drop (2 * i) (f k))
  unfolding upto
  two_at k i zero h l = absurd (omega arith)
  two_at k i (suc n) h l =
      ⊎_elim (λ (e : k ≡ n). rw e (last n i))
      (λ (u : k < n). earlier n (2 * (sum_upto g k + i)) (omega (arith, all_length n, inside k i n u l)) ∙ two_at k i n u l)
      (eq-or-lt_of_le (let q : k ≤ n = omega arith in q))

-- ---- lists of two
ones : (n : ℕ) → sum_upto (λ (k : ℕ). 1) n ≡ n
unfolding upto
ones zero = refl
ones (suc n) = omega (arith, ones n)

module _ {A : Type 0} (f : ℕ → List A) (two : (k : ℕ) → length (f k) ≡ 2) where
  pub pairs_length : (n : ℕ) → length (list_upto f n) ≡ 2 * n
  pairs_length n = all_length f (λ (k : ℕ). 1) two n ∙ ap (λ (x : ℕ). 2 * x) (ones n)

  pub pair_at : (i n : ℕ) → i < n → take 2 (drop (2 * i) (list_upto f n)) ≡ f i
  pair_at i n h =
      let e : 2 * (sum_upto (λ (k : ℕ). 1) i + 0) ≡ 2 * i = omega (arith, ones i) in
      let q = two_at f (λ (k : ℕ). 1) two i 0 n h (omega arith) in
      (rw e at q) ∙ take_all 2 (f i) (omega (arith, two i))

-- ---- of a trace body
module _ (b : List ℕ) (d : Body) where
  abbrev two : ℕ → ℕ → List ℤ
  two k = numbers_at (code_of b) (byte_at d) (start_of d k)

  each : (k i : ℕ) → length (two k i) ≡ 2
  unfolding numbers_at
  each k i = refl

  twice : (k : ℕ) → length (numbers_in b d (bytes_read b d) k) ≡ 2 * done_there b d k
  twice k = pairs_length (two k) (each k) (done_there b d k)

  pub in_order : InOrder b d
  unfolding numbers_at value_at
  in_order =
      record {
        count = all_length (numbers_in b d (bytes_read b d)) (done_there b d) twice (suc (ends d));
        total = refl;
        sample = λ k i h l. two_at (numbers_in b d (bytes_read b d)) (done_there b d) twice k i (suc (ends d)) (omega arith) l ∙ pair_at (two k) (each k) i (done_there b d k) l;
        value = λ k i. refl;
        own = byte_in_lem d;
      }

report_given : (f : Result ⊤ Refusal) (a t : Report) → answered f a ≡ report t → (f ≡ Ok tt) × (t ≡ a)
report_given (Ok tt) a t e = (refl, cc)
report_given (Err r) a t e = let z : ◌≡◌ {A = ℕ} 0 1 = cc in absurd (omega arith)

pub reported : (b : List ℕ) (d : Body) (t : Report) → closing b d ≡ report t → (closing_fault b d ≡ Ok tt) × (t ≡ report_of b d)
unfolding closing
reported b d t e = report_given (closing_fault b d) (report_of b d) t e

pub owed : (b : List ℕ) (d : Body) (t : Report) → closing b d ≡ report t → done_of b d ≡ t.samples
owed b d t e =
    let g = reported b d t e in
    let p = both_clear (stop_of b d) _ g.0 in
    rw (p.0, g.1)
