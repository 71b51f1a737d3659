-- A scan's size by its code's groups of samples, over any numbers.
-- Assumes nothing.
use Prim.Native.Nat.{ℕ, ◌+◌, ◌*◌, ◌/◌, ◌%◌, ◌≤◌, ◌<◌}
use mathlib.Core.Path.{◌≡◌, sym, ◌∙◌, ap}
use native.Mathlib.Nat.{mul-div_cancel, mul-le-mul_left, mod-one, div-add-mod', mul_assoc, mul_left_comm}
use native.Mathlib.Omega.{arith}
use Rattle.codes.proofs.Rows.{Words, alone, fours, Sized}

-- equal products by one factor that is not 0
pub cancel : (a b n : ℕ) → 0 < n → a * n ≡ b * n → a ≡ b
cancel a b n p e = sym (mul-div_cancel a p) ∙ ap (λ (x : ℕ). x / n) e ∙ mul-div_cancel b p

-- B bytes hold 8 and n samples of 8 bits or more: n is less than B by 8 at least
pub samples_below : (scan n bits : ℕ) → 8 ≤ bits → 8 * scan ≡ 64 + n * bits → n + 8 ≤ scan
samples_below scan n bits h e = omega (arith, mul-le-mul_left n h)

-- where the samples are whole groups
pub record Grouped (scan n per lead word : ℕ) : Type 0 where
  pub whole : n % per ≡ 0
  pub size : scan ≡ 8 + n / per * (lead + per * word)

-- as they are where they go by four and a group has four
pub whole_groups : {group per lead word : ℕ} (n : ℕ) → Words group per lead word → (per ≡ 4 → n % 4 ≡ 0) → n % per ≡ 0
whole_groups n (alone g p l w o) f = rw p (mod-one n)
whole_groups n (fours g p l w) f = rw p (f p)

pub grouped : {group per lead word bits : ℕ} (scan n : ℕ) → Sized group per lead word bits → 8 * scan ≡ 64 + n * bits → n % per ≡ 0 → Grouped scan n per lead word
grouped {group} {per} {lead} {word} {bits} scan n s e z =
    let q : n ≡ n / per * per = omega (arith, z, div-add-mod' n per) in
    let g : per * bits ≡ 8 * (lead + per * word) = sym s.bytes ∙ ap (λ (x : ℕ). 8 * x) s.sum in
    let m : n * bits ≡ 8 * (n / per * (lead + per * word)) = ap (λ (x : ℕ). x * bits) q ∙ mul_assoc (n / per) per bits ∙ ap (λ (x : ℕ). n / per * x) g ∙ mul_left_comm (n / per) 8 _ in
    record { whole = z; size = omega (arith, e, m) }
