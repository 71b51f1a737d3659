-- The last four bytes, as bytes go by.
-- Assumes nothing.
use Rattle.std.proofs.Common.{◌≡◌, ℕ, zero, suc, ◌+◌, ◌-◌, ◌*◌, ◌<◌, ◌≤◌, List, length, get_or, sym, ◌∙◌, add-zero, add-suc, mod-eq_of_lt, arith}
use Rattle.basis.specs.Digits.{written, byte_in}
use Rattle.runs.specs.Words.{four_at}
use Rattle.runs.proofs.Bytes.{four_there}
use Rattle.scan.specs.Step.{shift, low}
use Rattle.stream.specs.Bulk.{held_at}

-- the last m + 1 of four bytes are the last m of those before, and the new one
shift_low : (m x b : ℕ) → m ≤ 3 → b < 256 → low (shift x b) (suc m) ≡ low x m * 256 + b
unfolding low shift
shift_low zero x b h l = omega arith
shift_low (suc zero) x b h l = omega arith
shift_low (suc (suc zero)) x b h l = omega arith
shift_low (suc (suc (suc zero))) x b h l = omega arith
shift_low (suc (suc (suc (suc m)))) x b h l = absurd (omega arith)

module _ (bs : List ℕ) (h : ℕ) (l : (i : ℕ) → get_or bs i 0 < 256) where
  -- the last m of them are the bytes from a on, where m of those have gone by
  pub held_low : (a m : ℕ) → m ≤ 4 → low (held_at bs h (a + m)) m ≡ written 256 (byte_in bs) a m
  unfolding written low
  held_low a zero k = omega arith
  held_low a (suc m) k =
      rw (add-suc a m, shift_low m (held_at bs h (a + m)) (get_or bs (a + m) 0) (omega arith) (l (a + m)), held_low a m (omega arith))

  all_four : (i : ℕ) → 0 < i → low (held_at bs h i) 4 ≡ held_at bs h i
  unfolding low shift
  all_four zero k = absurd (omega arith)
  all_four (suc i) k = mod-eq_of_lt (omega (arith, l i))

  -- all four, once four have gone by
  pub held_four : 4 ≤ length bs → held_at bs h (length bs) ≡ four_at bs (length bs - 4)
  held_four k =
      let e : length bs - 4 + 4 ≡ length bs = omega arith in
      sym (all_four (length bs) (omega arith)) ∙ (rw e at (held_low (length bs - 4) 4 (omega arith)))
      ∙ sym (four_there bs (length bs - 4) (omega arith))

-- two and four bytes, shifted in one after another; of four nothing is left that was there before
module _ (bs : List ℕ) (l : (i : ℕ) → get_or bs i 0 < 256) where
  pub two_shifts : (k : ℕ) → shift (shift 0 (get_or bs k 0)) (get_or bs (k + 1) 0) ≡ written 256 (byte_in bs) k 2
  unfolding written shift
  two_shifts k = rw add-zero (omega (arith, l k, l (k + 1)))

  pub four_shifts : (x k : ℕ) → shift (shift (shift (shift x (get_or bs k 0)) (get_or bs (k + 1) 0)) (get_or bs (k + 2) 0)) (get_or bs (k + 3) 0) ≡ written 256 (byte_in bs) k 4
  unfolding written shift
  four_shifts x k = rw add-zero (omega (arith, l k, l (k + 1), l (k + 2), l (k + 3)))
