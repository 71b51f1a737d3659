-- What a general header that is not refused keeps, each rule of the table as a fact.
-- Assumes nothing.
use Rattle.std.specs.Prelude.{None, Ok, Option, Some}
use Prim.Native.Nat.{ℕ, ◌^◌, ◌≤◌, ◌<◌}
use mathlib.Core.Path.{◌≡◌, refl, sym}
use mathlib.Core.Logic.{◌⊎◌, inl, inr, ⊎_elim}
use mathlib.Core.Bool.{Bool, true, false, not, ◌&&◌, ◌||◌, false≢true}
use mathlib.Core.List.{List}
use native.Mathlib.Omega.{arith}
use lib.Dec.{leb, ltb, eqb}
use lib.ListN.{length}
use borrow.Author.Tests.{leb-true, le-leb, lt-leb, eqb-true, not-false}
use Rattle.basis.specs.Choice.{pick}
use Rattle.basis.proofs.Choices.{and_true}
use Rattle.refusals.specs.declared.Refusal.TheVariants.{Short, Format, Digit, Range, Length}
use Rattle.refusals.proofs.Clears.{when_clear, first_clear}
use Rattle.codes.specs.declared.Row.{Row}
use Rattle.codes.specs.Codes.{row_of}
use Rattle.general.specs.General.{code_of, bytes_per_scan, interval_of, scan_types, channel_sets, unknown, general_digits, within, time_in_range, is_interval, scan_in_range, counts_in_range, header_length, general_fault}

-- a power of two up to 128
pub record Step (i : ℕ) : Type 0 where
  pub exponent : ℕ
  pub small : exponent ≤ 7
  pub is : i ≡ 2 ^ exponent

-- a code among the twelve
pub record Known (code : ℕ) : Type 0 where
  pub row : Row
  pub found : row_of code ≡ Some row

pub record General (b : List ℕ) : Type 0 where
  pub known : Known (code_of b)
  pub scan : code_of b < 0x8000 → (1 ≤ bytes_per_scan b) × (bytes_per_scan b ≤ 999999)
  pub none : 0x8000 ≤ code_of b → bytes_per_scan b ≡ 0
  pub interval : Step (interval_of b)
  pub types : (1 ≤ scan_types b) × (scan_types b ≤ 99)
  pub sets : (1 ≤ channel_sets b) × (channel_sets b ≤ 99)
  pub exact : length b ≡ header_length b

pub within_is : (least x greatest : ℕ) → within least x greatest ≡ true → (least ≤ x) × (x ≤ greatest)
unfolding within
within_is least x greatest e = let p = and_true (leb least x) (leb x greatest) e in (leb-true _ _ p.0, leb-true _ _ p.1)

pub or_true : (a b : Bool) → (a || b) ≡ true → (a ≡ true) ⊎ (b ≡ true)
or_true true b e = inl refl
or_true false b e = inr e

power : {i : ℕ} (k : ℕ) → k ≤ 7 → eqb i (2 ^ k) ≡ true → Step i
power {i} k h e = record { exponent = k; small = h; is = eqb-true i (2 ^ k) e }

step : (i : ℕ) → is_interval i ≡ true → Step i
unfolding is_interval
step i e =
    ⊎_elim (λ p. ⊎_elim (λ p. ⊎_elim (λ p. ⊎_elim (λ p. ⊎_elim (λ p. ⊎_elim (λ p. ⊎_elim (power 0 (omega arith)) (power 1 (omega arith)) (or_true (eqb i 1) (eqb i 2) p))
    (power 2 (omega arith)) (or_true _ (eqb i 4) p)) (power 3 (omega arith)) (or_true _ (eqb i 8) p)) (power 4 (omega arith)) (or_true _ (eqb i 16) p))
    (power 5 (omega arith)) (or_true _ (eqb i 32) p)) (power 6 (omega arith)) (or_true _ (eqb i 64) p)) (power 7 (omega arith)) (or_true _ (eqb i 128) e)

has_row : (code : ℕ) (f : Option Row) → row_of code ≡ f → unknown f ≡ false → Known code
has_row code None q e = absurd (false≢true (sym e))
has_row code (Some r) q e = record { row = r; found = q }

-- B of a multiplexed code, and of a demultiplexed one
scan_kept : (code scan : ℕ) → code < 0x8000 → scan_in_range code scan ≡ true → within 1 scan 999999 ≡ true
unfolding scan_in_range pick
scan_kept code scan m e = rw (lt-leb 0x8000 code m) at e

none_kept : (code scan : ℕ) → 0x8000 ≤ code → scan_in_range code scan ≡ true → scan ≡ 0
unfolding scan_in_range pick
none_kept code scan m e = eqb-true scan 0 (rw (le-leb 0x8000 code m) at e)

pub general_kept : (b : List ℕ) → general_fault b ≡ Ok tt → General b
unfolding general_fault counts_in_range
general_kept b e =
    let a₁ = first_clear (ltb (length b) 32) Short e in
    let a₂ = first_clear (unknown (row_of (code_of b))) Format a₁.1 in
    let a₃ = first_clear (not (general_digits b)) Digit a₂.1 in
    let a₄ = first_clear (not (time_in_range b && counts_in_range b)) Range a₃.1 in
    let a₅ = when_clear (not (eqb (length b) (header_length b))) Length a₄.1 in
    let r = and_true (time_in_range b) (counts_in_range b) (not-false _ a₄.0) in
    let c₁ = and_true _ (within 1 (channel_sets b) 99) r.1 in
    let c₂ = and_true _ (within 1 (scan_types b) 99) c₁.0 in
    let c₃ = and_true (scan_in_range (code_of b) (bytes_per_scan b)) (is_interval (interval_of b)) c₂.0 in
    record {
      known = has_row (code_of b) (row_of (code_of b)) refl a₂.0;
      scan = λ m. within_is _ _ _ (scan_kept (code_of b) (bytes_per_scan b) m c₃.0);
      none = λ m. none_kept (code_of b) (bytes_per_scan b) m c₃.0;
      interval = step _ c₃.1;
      types = within_is _ _ _ c₂.1;
      sets = within_is _ _ _ c₁.1;
      exact = eqb-true (length b) (header_length b) (not-false _ a₅);
    }
