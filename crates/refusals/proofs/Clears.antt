-- Laws of rules looked at in order: where none is broken each is kept, and a refusal is that of the first that is broken.
-- Assumes nothing.
use Rattle.std.specs.Prelude.{Err, Ok, Result, ⊤}
use Prim.Native.Nat.{ℕ, zero, suc, ◌≤◌, ◌<◌}
use mathlib.Core.Path.{◌≡◌, refl, sym}
use mathlib.Core.Logic.{◌⊎◌, inl, inr, ⊎_elim}
use mathlib.Core.Bool.{Bool, true, false}
use native.Mathlib.Nat.{eq-or-lt_of_le}
use native.Mathlib.Omega.{arith}
use Rattle.basis.specs.Choice.{pick}
use Rattle.basis.specs.Upto.{upto}
use Rattle.basis.proofs.Uptos.{upto_first}
use Rattle.refusals.specs.declared.Refusal.{Refusal}
use Rattle.refusals.specs.Order.{when, or_else, first_upto}

clash : {A : Type 0} {r : Refusal} → ◌≡◌ {A = Result ⊤ Refusal} (Err r) (Ok tt) → A
clash e = let z : ◌≡◌ {A = ℕ} 0 1 = cc in absurd (omega arith)

pub both_clear : (a b : Result ⊤ Refusal) → or_else a b ≡ Ok tt → (a ≡ Ok tt) × (b ≡ Ok tt)
both_clear (Ok tt) b e = (refl, e)
both_clear (Err r) b e = clash e

pub when_clear : (t : Bool) (r : Refusal) → when t r ≡ Ok tt → t ≡ false
unfolding pick
when_clear true r e = clash e
when_clear false r e = refl

pub first_clear : (t : Bool) (r : Refusal) {rest : Result ⊤ Refusal} → or_else (when t r) rest ≡ Ok tt → (t ≡ false) × (rest ≡ Ok tt)
unfolding pick
first_clear true r e = clash e
first_clear false r e = (refl, e)

pub each_clear : (f : ℕ → Result ⊤ Refusal) (i n : ℕ) → i < n → first_upto f n ≡ Ok tt → f i ≡ Ok tt
unfolding upto
each_clear f i zero h e = absurd (omega arith)
each_clear f i (suc n) h e =
    let p = both_clear (first_upto f n) (f n) e in
    ⊎_elim (λ (q : i ≡ n). rw q p.1) (λ (l : i < n). each_clear f i n l p.0) (eq-or-lt_of_le (let k : i ≤ n = omega arith in k))

or_assoc : (a b c : Result ⊤ Refusal) → or_else (or_else a b) c ≡ or_else a (or_else b c)
or_assoc (Ok tt) b c = refl
or_assoc (Err r) b c = refl

or_clear : (a : Result ⊤ Refusal) → or_else (Ok tt) a ≡ or_else a (Ok tt)
or_clear (Ok tt) = refl
or_clear (Err r) = refl

pub at_either : (a b : Result ⊤ Refusal) (r : Refusal) → or_else a b ≡ Err r → (a ≡ Err r) ⊎ ((a ≡ Ok tt) × (b ≡ Err r))
at_either (Ok tt) b r e = inr (refl, e)
at_either (Err q) b r e = inl e

pub clear_at : {r : Refusal} → ◌≡◌ {A = Result ⊤ Refusal} (Ok tt) (Err r) → ⊥
clear_at e = clash (sym e)

pub first_first : (f : ℕ → Result ⊤ Refusal) (n : ℕ) → first_upto f (suc n) ≡ or_else (f 0) (first_upto (λ (k : ℕ). f (suc k)) n)
first_first = upto_first or_else (Ok tt) or_assoc or_clear

-- the refusal among them is one of them, and none comes before it
pub data Found (f : ℕ → Result ⊤ Refusal) (n : ℕ) (r : Refusal) : Type 0 where
  found : (k : ℕ) → k < n → f k ≡ Err r → first_upto f k ≡ Ok tt → Found f n r

pub first_at : (f : ℕ → Result ⊤ Refusal) (n : ℕ) (r : Refusal) → first_upto f n ≡ Err r → Found f n r
unfolding upto
first_at f zero r e = absurd (clear_at e)
first_at f (suc n) r e = ⊎_elim (λ q. more (first_at f n r q)) (λ p. found n (omega arith) p.1 p.0) (at_either (first_upto f n) (f n) r e)
  where
    more : Found f n r → Found f (suc n) r
    more (found k h q c) = found k (omega arith) q c
