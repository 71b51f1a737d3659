-- What a descriptor that is not refused keeps, and the samples of a scan whose sets all go by four.
-- Assumes nothing.
use Rattle.std.specs.Prelude.{Ok}
use Prim.Native.Nat.{ℕ, zero, suc, ◌+◌, ◌*◌, ◌/◌, ◌%◌, ◌≤◌, ◌<◌}
use mathlib.Core.Path.{◌≡◌, refl, sym}
use mathlib.Core.Bool.{Bool, true, false, not, ◌||◌, and-false, false≢true}
use mathlib.Core.List.{List}
use native.Mathlib.Nat.{mul-zero, mul-suc, mul-le-mul}
use native.Mathlib.Omega.{arith}
use lib.Dec.{leb, eqb}
use lib.Pow.{pow_mono}
use borrow.Author.Tests.{leb-true, lt-leb, eqb-true, eq-eqb, not-false}
use Rattle.basis.specs.Upto.{upto}
use Rattle.refusals.specs.declared.Refusal.TheVariants.{Descriptor, Four}
use Rattle.refusals.proofs.Clears.{when_clear, first_clear, each_clear}
use Rattle.codes.specs.Codes.{per_of, demultiplexed}
use Rattle.basis.specs.Digits.{written}
use Rattle.basis.proofs.Choices.{and_true}
use Rattle.block.specs.Bytes.{byte, upper, is_pair, pair_of, pair, pairs, decimal}
use Rattle.general.specs.General.{code_of, scan_types, channel_sets}
use Rattle.sets.specs.Descriptors.{descriptor_at, descriptor_holds, four_holds, set_fault, scan_type_fault, descriptors_fault}
use Rattle.sets.specs.Samples.{channels_of, subscans_of, set_samples, samples_before}

-- each descriptor of a block whose descriptors are not refused
pub each_kept : (b : List ℕ) → descriptors_fault b ≡ Ok tt → (t s : ℕ) → t < scan_types b → s < channel_sets b → set_fault b t s ≡ Ok tt
unfolding descriptors_fault scan_type_fault
each_kept b e t s h g = each_clear (set_fault b t) s _ g (each_clear (scan_type_fault b) t _ h e)

pub descriptor_kept : (b : List ℕ) (t s : ℕ) → set_fault b t s ≡ Ok tt → descriptor_holds (descriptor_at b t s) t s ≡ true
unfolding set_fault
descriptor_kept b t s e = not-false _ (first_clear (not (descriptor_holds (descriptor_at b t s) t s)) (Descriptor (t + 1) (s + 1)) e).0

exponent_small : (d : List ℕ) (t s : ℕ) → descriptor_holds d t s ≡ true → upper d 12 ≤ 9
unfolding descriptor_holds
exponent_small d t s e = leb-true _ _ (by_test (leb (upper d 12) 9) refl)
  where
    by_test : (x : Bool) → leb (upper d 12) 9 ≡ x → leb (upper d 12) 9 ≡ true
    by_test true p = p
    by_test false p = let z : ◌≡◌ {A = Bool} false true = simp (p, and-false) at e in absurd (false≢true z)

pub subscans_few : (b : List ℕ) (t s : ℕ) → set_fault b t s ≡ Ok tt → subscans_of b t s ≤ 512
subscans_few b t s e = pow_mono (exponent_small (descriptor_at b t s) t s (descriptor_kept b t s e))

-- "channels 0-9999"
pairs_kept : (d : List ℕ) (t s : ℕ) → descriptor_holds d t s ≡ true → pairs d 9 10 ≡ true
unfolding descriptor_holds
pairs_kept d t s e = by_test (pairs d 9 10) refl
  where
    by_test : (x : Bool) → pairs d 9 10 ≡ x → pairs d 9 10 ≡ true
    by_test true p = p
    by_test false p = let z : ◌≡◌ {A = Bool} false true = simp (p, and-false) at e in absurd (false≢true z)

pair_few : (x : ℕ) → is_pair x ≡ true → pair_of x ≤ 99
unfolding is_pair pair_of
pair_few x e = let p = and_true (leb (x / 16) 9) (leb (x % 16) 9) e in let a = leb-true (x / 16) 9 p.0 in let b = leb-true (x % 16) 9 p.1 in omega arith

decimal_few : (d : List ℕ) → pairs d 9 10 ≡ true → decimal d 9 10 ≤ 9999
unfolding pairs decimal pair upto written
decimal_few d e =
    let p = and_true (is_pair (byte d 9)) (is_pair (byte d 10)) e in
    let a = pair_few (byte d 9) p.0 in
    let c = pair_few (byte d 10) p.1 in
    omega arith

pub channels_few : (b : List ℕ) (t s : ℕ) → set_fault b t s ≡ Ok tt → channels_of b t s ≤ 9999
channels_few b t s e = decimal_few (descriptor_at b t s) (pairs_kept (descriptor_at b t s) t s (descriptor_kept b t s e))

-- so that no scan has more than so many samples
pub samples_bounded : (b : List ℕ) (t n : ℕ) → ((s : ℕ) → s < n → set_fault b t s ≡ Ok tt) → samples_before b t n ≤ n * 5119488
unfolding upto set_samples
samples_bounded b t zero h = omega arith
samples_bounded b t (suc n) h =
    let p = samples_bounded b t n (λ s l. h s (omega arith)) in
    let e = h n (omega arith) in
    let q : channels_of b t n * subscans_of b t n ≤ 9999 * 512 = mul-le-mul (channels_few b t n e) (subscans_few b t n e) in
    omega arith

four : (m t : Bool) (n : ℕ) → m ≡ false → t ≡ true → (m || not t || eqb (n % 4) 0) ≡ true → n % 4 ≡ 0
four true t n q p e = absurd (false≢true (sym q))
four false true n q p e = eqb-true _ _ e
four false false n q p e = absurd (false≢true p)

-- "In format 0015 each channel count divides by 4"
pub channels_by_four : (b : List ℕ) (t s : ℕ) → set_fault b t s ≡ Ok tt → code_of b < 0x8000 → per_of (code_of b) ≡ 4 → channels_of b t s % 4 ≡ 0
unfolding set_fault four_holds
channels_by_four b t s e m p =
    let a = first_clear (not (descriptor_holds (descriptor_at b t s) t s)) (Descriptor (t + 1) (s + 1)) e in
    four (demultiplexed (code_of b)) (eqb (per_of (code_of b)) 4) (channels_of b t s) (lt-leb 0x8000 (code_of b) m) (eq-eqb _ _ p) (not-false _ (when_clear _ (Four (t + 1) (s + 1)) a.1))

-- sums and products by four
by_four : (a k : ℕ) → a % 4 ≡ 0 → a * k % 4 ≡ 0
by_four a zero e = rw mul-zero refl
by_four a (suc k) e = rw mul-suc (omega (arith, by_four a k e))

pub samples_by_four : (b : List ℕ) (t n : ℕ) → ((s : ℕ) → s < n → channels_of b t s % 4 ≡ 0) → samples_before b t n % 4 ≡ 0
unfolding upto set_samples
samples_by_four b t zero h = refl
samples_by_four b t (suc n) h =
    let p = samples_by_four b t n (λ s l. h s (omega arith)) in
    let q = by_four (channels_of b t n) (subscans_of b t n) (h n (omega arith)) in
    omega (arith, p, q)
