-- The words of a scan, whatever a group has before them, however many and of whatever size: each has its own bytes, and they lie within the scan.
-- Assumes nothing.
use Rattle.std.specs.Prelude.{Ok}
use Prim.Native.Nat.{ℕ, zero, suc, ◌+◌, ◌*◌, ◌-◌, ◌/◌, ◌%◌, ◌≤◌, ◌<◌}
use mathlib.Core.Path.{◌≡◌, ap}
use mathlib.Core.List.{List}
use mathlib.Core.Logic.{⊎_elim}
use native.Mathlib.Nat.{eq-or-lt_of_le, div-add-mod', mod-lt, mul-le-mul_right, suc-mul, le-div_iff_mul-le, div-mul-le_self, div-lt_iff_lt-mul}
use native.Mathlib.Omega.{arith}
use Rattle.basis.proofs.Digits.{Next, along, wrap, next}
use Rattle.codes.specs.Codes.{per_of, lead_of, word_bytes_of}
use Rattle.general.specs.General.{code_of, bytes_per_scan, scan_types}
use Rattle.sets.specs.Samples.{samples_of}
use Rattle.header.specs.Faults.{header_fault}
use Rattle.header.proofs.Accepted.{sizes, scan_in_groups}
use Rattle.layout.specs.Places.{group_bytes, word_place}

module _ (per lead word : ℕ) (some : 0 < per) where
  -- word r of group a ends before the groups after it
  ends : (a r b : ℕ) → r < per → a < b → 8 + a * group_bytes per lead word + (lead + r * word) + word ≤ 8 + b * group_bytes per lead word
  ends a r b h l = omega (arith, mul-le-mul_right word h, suc-mul r word, mul-le-mul_right (group_bytes per lead word) l, suc-mul a (group_bytes per lead word))

  -- one word after another
  apart : (j k : ℕ) → j < k → word_place per lead word j + word ≤ word_place per lead word k
  apart j k l =
      ⊎_elim
      (λ (e : j / per ≡ k / per).
      let r : j % per < k % per = omega (arith, div-add-mod' j per, div-add-mod' k per, ap (λ (a : ℕ). a * per) e) in
      omega (arith, mul-le-mul_right word r, suc-mul (j % per) word, ap (λ (a : ℕ). a * group_bytes per lead word) e))
      (λ h. omega (arith, ends (j / per) (j % per) (k / per) (mod-lt j some) h))
      (eq-or-lt_of_le ((le-div_iff_mul-le some).1 (omega (arith, div-mul-le_self j per))))

  -- and the last one ends with the scan's groups,
  inside : (n k : ℕ) → n % per ≡ 0 → k < n → word_place per lead word k + word ≤ 8 + n / per * group_bytes per lead word
  inside n k z l = ends (k / per) (k % per) (n / per) (mod-lt k some) ((div-lt_iff_lt-mul some).1 (omega (arith, z, div-add-mod' n per)))

  -- which the words and their exponents fill
  fills : (n : ℕ) → n % per ≡ 0 → 0 < n → word_place per lead word (n - 1) + word ≡ 8 + n / per * group_bytes per lead word
  fills zero z l = absurd (omega arith)
  fills (suc n) z l = let p : suc n - 1 ≡ n = omega arith in rw p (go (next per n some))
    where
      go : Next per n → word_place per lead word n + word ≡ 8 + suc n / per * group_bytes per lead word
      go (along d m u) = absurd (omega (arith, z, m))
      go (wrap d m u) = rw d (omega (arith, suc-mul (n / per) (group_bytes per lead word), ap (λ (a : ℕ). a * word) u, suc-mul (n % per) word))

module _ (b : List ℕ) (e : header_fault b ≡ Ok tt) where
  -- the place of sample k's word
  abbrev pub word : ℕ → ℕ
  word k = word_place (per_of (code_of b)) (lead_of (code_of b)) (word_bytes_of (code_of b)) k

  pub words_apart : (j k : ℕ) → j < k → word j + word_bytes_of (code_of b) ≤ word k
  words_apart = apart _ _ _ (sizes b e).some

  pub word_inside : code_of b < 0x8000 → (t : ℕ) → t < scan_types b → (k : ℕ) → k < samples_of b t → word k + word_bytes_of (code_of b) ≤ bytes_per_scan b
  word_inside m t h k l = let g = scan_in_groups b e m t h in rw g.size (inside _ _ _ (sizes b e).some (samples_of b t) k g.whole l)

  -- the last word ends with the scan
  pub words_fill : code_of b < 0x8000 → (t : ℕ) → t < scan_types b → 0 < samples_of b t → word (samples_of b t - 1) + word_bytes_of (code_of b) ≡ bytes_per_scan b
  words_fill m t h l = let g = scan_in_groups b e m t h in rw g.size (fills _ _ _ (sizes b e).some (samples_of b t) g.whole l)
