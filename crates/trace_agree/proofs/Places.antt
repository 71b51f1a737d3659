-- What a byte at place p adds to the samples before it: nothing, or one, in its own trace.
-- Assumes nothing.
use Prim.Native.Nat.{ℕ, suc, ◌+◌, ◌-◌, ◌<◌}
use mathlib.Core.Path.{◌≡◌, refl, sym, ap, ◌∙◌}
use mathlib.Core.Bool.{Bool, true, false}
use mathlib.Core.List.{List, [], ◌++◌, append-nil, append_assoc}
use native.Mathlib.Nat.{add-zero, add_assoc}
use native.Mathlib.Numerals.{add-one}
use native.Mathlib.Omega.{arith}
use lib.Dec.{ltb}
use borrow.Author.Tests.{ltb-true, ltb-false}
use Rattle.basis.specs.Upto.{upto, sum_upto, list_upto}
use Rattle.basis.proofs.Uptos.{upto_same, sum_grows}
use Rattle.general.specs.General.{code_of}
use Rattle.rules.specs.Tape.{Body, ends, length_of, start_of, byte_at}
use Rattle.rules.proofs.Machine.{Inside}
use Rattle.trace_rules.specs.Samples.{samples_in, numbers_at, off_at}
use Rattle.trace_rules.specs.Outcome.{bytes_in, done_in, numbers_in, off_in, done_before, numbers_before, off_before}
use Rattle.trace_agree.proofs.Sums.{one_more}
use Rattle.trace_agree.proofs.Counts.{Sizes, none_yet}

pub data Side (k i : ℕ) : Type 0 where
  lower : k < i → Side k i
  even : k ≡ i → Side k i
  upper : i < k → Side k i

pub side : (k i : ℕ) → Side k i
side k i = go (ltb k i) (ltb i k) refl refl
  where
    go : (t u : Bool) → ltb k i ≡ t → ltb i k ≡ u → Side k i
    go true u e f = lower (ltb-true k i e)
    go false true e f = upper (ltb-true i k f)
    go false false e f = even (omega (arith, ltb-false k i e, ltb-false i k f))

pub start_next : (d : Body) (k : ℕ) → start_of d (suc k) ≡ start_of d k + length_of d k
unfolding upto
start_next d k = refl

module _ (d : Body) (i s p : ℕ) (a : Inside d i s p) where
  pub own : bytes_in d p i ≡ p - s
  own = omega arith

  pub own_next : bytes_in d (suc p) i ≡ suc (p - s)
  own_next = omega arith

  earlier : (k : ℕ) → k < i → bytes_in d (suc p) k ≡ bytes_in d p k
  earlier k l = omega (arith, start_next d k, sum_grows (length_of d) (suc k) i l)

  later : (k : ℕ) → i < k → bytes_in d p k ≡ 0
  later k l = omega (arith, start_next d i, sum_grows (length_of d) (suc i) k l)

  later_next : (k : ℕ) → i < k → bytes_in d (suc p) k ≡ 0
  later_next k l = omega (arith, start_next d i, sum_grows (length_of d) (suc i) k l)

  module _ (b : List ℕ) (z : Sizes (code_of b)) where
    abbrev n : ℕ
    n = p - s

    done_here : done_in b d p i ≡ samples_in (code_of b) n
    done_here = ap (samples_in (code_of b)) own

    done_there : done_in b d (suc p) i ≡ samples_in (code_of b) (suc n)
    done_there = ap (samples_in (code_of b)) own_next

    done_none : (k : ℕ) → i < k → done_in b d p k ≡ 0
    done_none k l = ap (samples_in (code_of b)) (later k l) ∙ none_yet (code_of b) z 0 (omega arith)

    done_none_next : (k : ℕ) → i < k → done_in b d (suc p) k ≡ 0
    done_none_next k l = ap (samples_in (code_of b)) (later_next k l) ∙ none_yet (code_of b) z 0 (omega arith)

    -- a byte that completes no sample
    module _ (e : samples_in (code_of b) (suc n) ≡ samples_in (code_of b) n) where
      done_each : (k : ℕ) → done_in b d (suc p) k ≡ done_in b d p k
      done_each k = go (side k i)
        where
          go : Side k i → done_in b d (suc p) k ≡ done_in b d p k
          go (lower l) = ap (samples_in (code_of b)) (earlier k l)
          go (even q) = rw q (done_there ∙ e ∙ sym done_here)
          go (upper l) = done_none_next k l ∙ sym (done_none k l)

      pub done_same : done_before b d (suc p) ≡ done_before b d p
      done_same = upto_same ◌+◌ 0 (done_in b d (suc p)) (done_in b d p) done_each (suc (ends d))

      pub off_same : off_before b d (suc p) ≡ off_before b d p
      off_same = upto_same ◌+◌ 0 (off_in b d (suc p)) (off_in b d p) (λ k. ap (sum_upto (off_at (code_of b) (byte_at d) (start_of d k))) (done_each k)) (suc (ends d))

      pub numbers_same : numbers_before b d (suc p) ≡ numbers_before b d p
      numbers_same = upto_same ◌++◌ [] (numbers_in b d (suc p)) (numbers_in b d p) (λ k. ap (list_upto (numbers_at (code_of b) (byte_at d) (start_of d k))) (done_each k)) (suc (ends d))

    -- a byte that completes one
    module _ (e : samples_in (code_of b) (suc n) ≡ suc (samples_in (code_of b) n)) where
      more_here : done_in b d (suc p) i ≡ suc (done_in b d p i)
      more_here = done_there ∙ e ∙ ap suc (sym done_here)

      few : i < suc (ends d)
      few = omega arith

      pub done_more : done_before b d (suc p) ≡ done_before b d p + 1
      done_more =
          one_more ◌+◌ 0 add_assoc add-zero (done_in b d p) (done_in b d (suc p)) i 1 (λ k l. ap (samples_in (code_of b)) (earlier k l))
          (more_here ∙ sym (add-one (done_in b d p i))) (λ k l. (done_none k l, done_none_next k l)) (suc (ends d)) few

      -- of what each sample gives
      module _ {A : Type 0} (join : A → A → A) (none : A) (assoc : (x y v : A) → join (join x y) v ≡ join x (join y v)) (unit : (x : A) → join x none ≡ x) (g : ℕ → ℕ → A) where
        given_more : upto join none (λ (k : ℕ). upto join none (g k) (done_in b d (suc p) k)) (suc (ends d))
            ≡ join (upto join none (λ (k : ℕ). upto join none (g k) (done_in b d p k)) (suc (ends d))) (g i (samples_in (code_of b) n))
        unfolding upto
        given_more =
            one_more join none assoc unit (λ (k : ℕ). upto join none (g k) (done_in b d p k)) (λ (k : ℕ). upto join none (g k) (done_in b d (suc p) k)) i (g i (samples_in (code_of b) n))
            (λ k l. ap (λ (m : ℕ). upto join none (g k) (samples_in (code_of b) m)) (earlier k l))
            (ap (upto join none (g i)) more_here ∙ ap (λ (m : ℕ). join (upto join none (g i) (done_in b d p i)) (g i m)) done_here)
            (λ k l. (ap (upto join none (g k)) (done_none k l), ap (upto join none (g k)) (done_none_next k l)))
            (suc (ends d)) few

      pub off_more : off_before b d (suc p) ≡ off_before b d p + off_at (code_of b) (byte_at d) s (samples_in (code_of b) n)
      off_more =
          given_more ◌+◌ 0 add_assoc add-zero (λ (k : ℕ). off_at (code_of b) (byte_at d) (start_of d k))
          ∙ ap (λ (v : ℕ). off_before b d p + off_at (code_of b) (byte_at d) v (samples_in (code_of b) n)) (sym a.begins)

      pub numbers_more : numbers_before b d (suc p) ≡ numbers_before b d p ++ numbers_at (code_of b) (byte_at d) s (samples_in (code_of b) n)
      numbers_more =
          given_more ◌++◌ [] append_assoc append-nil (λ (k : ℕ). numbers_at (code_of b) (byte_at d) (start_of d k))
          ∙ ap (λ (v : ℕ). numbers_before b d p ++ numbers_at (code_of b) (byte_at d) v (samples_in (code_of b) n)) (sym a.begins)
