-- A run of bytes in closed form: one law for all widths, by what each byte's step does.
-- Assumes nothing.
use Rattle.std.specs.Prelude.{Some}
use Rattle.std.proofs.Common.{◌≡◌, ℕ, zero, suc, ◌+◌, ◌<◌, ◌≤◌, List, [], ◌∷◌, ◌++◌, length, get_or, take, refl, ap, append-nil, arith, take-suc}
use Rattle.basis.specs.Upto.{upto}
use Rattle.words.specs.declared.Value.{Value}
use Rattle.runs.specs.Runs.{numbers}
use Rattle.runs.proofs.Done.{numbers_more}
use Rattle.scan.specs.declared.State.{State}
use Rattle.scan.specs.declared.Stepped.{Stepped}
use Rattle.scan.specs.Step.{step, still, after, wrote, m_and_x}
use Rattle.scan.proofs.Fold.{after_append, wrote_append}

after_one : (s : State) (b : ℕ) → after s (b ∷ []) ≡ (step s b).state
unfolding after
after_one s b = refl

wrote_one : (s : State) (b : ℕ) → wrote s (b ∷ []) ≡ m_and_x (step s b)
unfolding wrote
wrote_one s b = append-nil (m_and_x (step s b))

-- states F i and counts D i, after i of the bytes, that each byte's step goes along: with no sample, or with the value of the next
module _ (bs : List ℕ) (F : ℕ → State) (D : ℕ → ℕ) (f : ℕ → Value) where
  pub data Turn (i : ℕ) : Type 0 where
    quietly : step (F i) (get_or bs i 0) ≡ still (F (suc i)) → D (suc i) ≡ D i → Turn i
    giving : step (F i) (get_or bs i 0) ≡ record { state = F (suc i); value = Some (f (D i)) } → D (suc i) ≡ D i + 1 → Turn i

  pub record SoFar (i : ℕ) : Type 0 where
    pub state : after (F 0) (take i bs) ≡ F i
    pub list : wrote (F 0) (take i bs) ≡ numbers f (D i)

  next_state : (i : ℕ) → i < length bs → SoFar i → (step (F i) (get_or bs i 0)).state ≡ F (suc i) → after (F 0) (take (suc i) bs) ≡ F (suc i)
  next_state i h s e = rw (take-suc bs i 0 h, after_append (F 0) (take i bs) (get_or bs i 0 ∷ []), s.state, after_one (F i) (get_or bs i 0)) e

  next_list : (i : ℕ) → i < length bs → SoFar i → numbers f (D i) ++ m_and_x (step (F i) (get_or bs i 0)) ≡ numbers f (D (suc i)) → wrote (F 0) (take (suc i) bs) ≡ numbers f (D (suc i))
  next_list i h s e = rw (take-suc bs i 0 h, wrote_append (F 0) (take i bs) (get_or bs i 0 ∷ []), s.state, s.list, wrote_one (F i) (get_or bs i 0)) e

  more : (i : ℕ) → i < length bs → Turn i → SoFar i → SoFar (suc i)
  unfolding m_and_x still
  more i h (quietly e d) s =
      record { state = next_state i h s (ap (λ (r : Stepped State). r.state) e); list = next_list i h s (rw (e, d, append-nil)) }
  more i h (giving e d) s =
      record { state = next_state i h s (ap (λ (r : Stepped State). r.state) e); list = next_list i h s (rw (e, d, numbers_more f (D i))) }

  pub so_far : ((i : ℕ) → i < length bs → Turn i) → D 0 ≡ 0 → (i : ℕ) → i ≤ length bs → SoFar i
  unfolding after wrote numbers upto
  so_far t z zero h = record { state = refl; list = rw z }
  so_far t z (suc i) h = more i (omega arith) (t i (omega arith)) (so_far t z i (omega arith))
