-- A stop's refusal says the number and the place that the state keeps.
-- Assumes nothing.
use Rattle.std.proofs.Common.{◌≡◌, ℕ, ◌≤◌, Bool, true, false, eqb, leb, [], ◌∷◌, refl, arith, eqb-true, leb-true}
use borrow.Author.Tests.{eqb-false}
use Rattle.basis.specs.Choice.{pick, ◌and◌, ◌or◌}
use Rattle.basis.proofs.Choices.{both_true}
use Rattle.refusals.specs.declared.Refusal.{Refusal}
use Rattle.refusals.specs.Table.{said, stop_refusal}
use Rattle.scan.specs.Fit.{stopb}
use Rattle.scan.proofs.Choices.{pick_cases}

-- a number that stands for a stop
stops : (n : ℕ) → stopb n ≡ true → (n ≡ 0 → ⊥) → (14 ≤ n) × (n ≤ 18)
unfolding stopb ◌or◌
stops n e z = go (eqb n 0) refl e
  where
    go : (t : Bool) → eqb n 0 ≡ t → (t or (leb 14 n and leb n 18)) ≡ true → (14 ≤ n) × (n ≤ 18)
    go true p q = absurd (z (eqb-true n 0 p))
    go false p q = let b = both_true (leb 14 n) (leb n 18) q in (leb-true 14 n b.0, leb-true n 18 b.1)

pub stop_said : (n place : ℕ) → stopb n ≡ true → (n ≡ 0 → ⊥) → said (stop_refusal n place) ≡ record { number = n; values = place ∷ [] }
unfolding stop_refusal
stop_said n place e z =
    let b = stops n e z in
    let P : Refusal → Type 0 = λ r. said r ≡ record { number = n; values = place ∷ [] } in
    pick_cases P (eqb n 14) (λ t. rw (eqb-true n 14 t))
    (λ a. pick_cases P (eqb n 15) (λ t. rw (eqb-true n 15 t))
    (λ c. pick_cases P (eqb n 16) (λ t. rw (eqb-true n 16 t))
    (λ d. pick_cases P (eqb n 17) (λ t. rw (eqb-true n 17 t))
    (λ f. let k : n ≡ 18 = last n b.0 b.1 (eqb-false n 14 a) (eqb-false n 15 c) (eqb-false n 16 d) (eqb-false n 17 f) in rw k (unfold pick in refl)))))
  where
    last : (n : ℕ) → 14 ≤ n → n ≤ 18 → (n ≡ 14 → ⊥) → (n ≡ 15 → ⊥) → (n ≡ 16 → ⊥) → (n ≡ 17 → ⊥) → n ≡ 18
    last n h k a c d f = omega arith
