-- Laws of rules looked at in order: for a loop that leaves at the first broken one.
-- Assumes nothing.
use Rattle.std.specs.Prelude.{Err, Ok, Result, ⊤}
use Prim.Native.Nat.{ℕ, zero, suc, ◌≤◌, ◌<◌}
use mathlib.Core.Path.{◌≡◌}
use mathlib.Core.Logic.{⊎_elim}
use native.Mathlib.Nat.{eq-or-lt_of_le}
use native.Mathlib.Omega.{arith}
use Rattle.basis.specs.Upto.{upto}
use Rattle.refusals.specs.declared.Refusal.{Refusal}
use Rattle.refusals.specs.Order.{first_upto}

pub first_found : (f : ℕ → Result ⊤ Refusal) (i n : ℕ) (r : Refusal) → first_upto f i ≡ Ok tt → i < n → f i ≡ Err r → first_upto f n ≡ Err r
unfolding upto
first_found f i zero r p h q = absurd (omega arith)
first_found f i (suc n) r p h q =
    ⊎_elim (λ (e : i ≡ n). rw (← e, p, q))
    (λ (l : i < n). rw (first_found f i n r p l q))
    (eq-or-lt_of_le (let k : i ≤ n = omega arith in k))
