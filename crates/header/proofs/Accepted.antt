-- What an accepted header keeps: the facts that the layout and the body lean on.
-- Assumes nothing.
use Rattle.std.specs.Prelude.{Ok}
use Prim.Native.Nat.{ℕ, ◌+◌, ◌*◌, ◌/◌, ◌%◌, ◌≤◌, ◌<◌}
use mathlib.Core.Path.{◌≡◌, refl}
use mathlib.Core.Logic.{⊎_elim}
use mathlib.Core.Bool.{Bool, true, false, not}
use mathlib.Core.List.{List}
use native.Mathlib.Nat.{mul-le-mul_right, add-mul}
use native.Mathlib.Omega.{arith}
use lib.Dec.{eqb, leb}
use lib.ListN.{length}
use borrow.Author.Tests.{eqb-true, not-false, le-leb, lt-leb, leb-true, leb-false}
use Rattle.basis.specs.Choice.{pick}
use Rattle.basis.proofs.Choices.{and_true}
use Rattle.refusals.specs.declared.Refusal.TheVariants.{Size, Skew}
use Rattle.refusals.proofs.Clears.{both_clear, when_clear, each_clear}
use Rattle.codes.specs.Codes.{group_of, per_of, lead_of, word_bytes_of, bits_of}
use Rattle.codes.proofs.Rows.{Sized, sized}
use Rattle.general.specs.General.{code_of, bytes_per_scan, interval_of, scan_types, channel_sets, skew_fields, extended_fields, external_fields, within, fields_before, header_length, general_fault}
use Rattle.general.proofs.Kept.{General, Step, general_kept, within_is, or_true}
use Rattle.sets.specs.Descriptors.{descriptor_place, set_fault, descriptors_fault}
use Rattle.sets.specs.Samples.{channels_of, subscans_of, samples_of}
use Rattle.sets.proofs.Kept.{each_kept, subscans_few, channels_by_four, samples_by_four, samples_bounded}
use Rattle.header.specs.Faults.{size_holds, size_fault, sizes_fault, skew_holds, header_fault}
use Rattle.header.specs.Answers.{is_set}
use Rattle.header.proofs.Sizes.{cancel, samples_below, Grouped, whole_groups, grouped}

-- each rule of the table
pub record Accepted (b : List ℕ) : Type 0 where
  pub general : General b
  pub sets : (t s : ℕ) → t < scan_types b → s < channel_sets b → set_fault b t s ≡ Ok tt
  pub sizes : (t : ℕ) → t < scan_types b → size_holds b t ≡ true
  pub skew : skew_holds b ≡ true

pub accepted : (b : List ℕ) → header_fault b ≡ Ok tt → Accepted b
unfolding header_fault sizes_fault size_fault
accepted b e =
    let a₁ = both_clear (general_fault b) _ e in
    let a₂ = both_clear (descriptors_fault b) _ a₁.1 in
    let a₃ = both_clear (sizes_fault b) _ a₂.1 in
    record {
      general = general_kept b a₁.0;
      sets = each_kept b a₂.0;
      sizes = λ t h. not-false _ (when_clear (not (size_holds b t)) (Size (t + 1)) (each_clear (size_fault b) t _ h a₃.0));
      skew = not-false _ (when_clear (not (skew_holds b)) Skew a₃.1);
    }

-- ---- numbers
pub types_few : (b : List ℕ) → header_fault b ≡ Ok tt → (1 ≤ scan_types b) × (scan_types b ≤ 99)
types_few b e = (accepted b e).general.types

pub sets_few : (b : List ℕ) → header_fault b ≡ Ok tt → (1 ≤ channel_sets b) × (channel_sets b ≤ 99)
sets_few b e = (accepted b e).general.sets

pub interval_is : (b : List ℕ) → header_fault b ≡ Ok tt → Step (interval_of b)
interval_is b e = (accepted b e).general.interval

-- "Bytes per scan must be recorded as zero"
pub no_scan_bytes : (b : List ℕ) → header_fault b ≡ Ok tt → 0x8000 ≤ code_of b → bytes_per_scan b ≡ 0
no_scan_bytes b e = (accepted b e).general.none

-- SIZE's rule of a multiplexed code, and of a demultiplexed one
by_size : (b : List ℕ) (t : ℕ) → code_of b < 0x8000 → size_holds b t ≡ true → eqb (8 * bytes_per_scan b) (64 + samples_of b t * bits_of (code_of b)) ≡ true
unfolding size_holds pick
by_size b t m e = rw (lt-leb 0x8000 (code_of b) m) at e

by_first : (b : List ℕ) (t : ℕ) → 0x8000 ≤ code_of b → size_holds b t ≡ true → samples_of b t ≡ samples_of b 0
unfolding size_holds pick
by_first b t m e = eqb-true _ _ (rw (le-leb 0x8000 (code_of b) m) at e)

-- E2, in bits
pub size_is : (b : List ℕ) → header_fault b ≡ Ok tt → code_of b < 0x8000 → (t : ℕ) → t < scan_types b → 8 * bytes_per_scan b ≡ 64 + samples_of b t * bits_of (code_of b)
size_is b e m t h = eqb-true _ _ (by_size b t m ((accepted b e).sizes t h))

-- the groups of its code
pub sizes : (b : List ℕ) → header_fault b ≡ Ok tt → Sized (group_of (code_of b)) (per_of (code_of b)) (lead_of (code_of b)) (word_bytes_of (code_of b)) (bits_of (code_of b))
sizes b e = let k = (accepted b e).general.known in sized (code_of b) k.row k.found

pub first_type : (b : List ℕ) → header_fault b ≡ Ok tt → 0 < scan_types b
first_type b e = omega (arith, (types_few b e).0)

-- every scan type has the same S/S
pub same_samples : (b : List ℕ) → header_fault b ≡ Ok tt → (t : ℕ) → t < scan_types b → samples_of b t ≡ samples_of b 0
same_samples b e t h = go (leb 0x8000 (code_of b)) refl
  where
    go : (x : Bool) → leb 0x8000 (code_of b) ≡ x → samples_of b t ≡ samples_of b 0
    go true p = by_first b t (leb-true 0x8000 (code_of b) p) ((accepted b e).sizes t h)
    go false p =
        let m = leb-false 0x8000 (code_of b) p in
        cancel (samples_of b t) (samples_of b 0) (bits_of (code_of b)) (omega (arith, (sizes b e).many))
        (omega (arith, size_is b e m t h, size_is b e m 0 (first_type b e)))

-- S/S of whatever code: 99 sets of 9999 channels, 512 samples each
pub samples_small : (b : List ℕ) → header_fault b ≡ Ok tt → (t : ℕ) → t < scan_types b → samples_of b t ≤ 506829312
unfolding samples_of
samples_small b e t h = omega (arith, samples_bounded b t (channel_sets b) (λ s g. (accepted b e).sets t s h g), (sets_few b e).1)

pub samples_few : (b : List ℕ) → header_fault b ≡ Ok tt → code_of b < 0x8000 → (t : ℕ) → t < scan_types b → samples_of b t ≤ 999991
samples_few b e m t h =
    omega (arith, samples_below (bytes_per_scan b) (samples_of b t) (bits_of (code_of b)) (sizes b e).many (size_is b e m t h), ((accepted b e).general.scan m).1)

pub scan_is : (b : List ℕ) → header_fault b ≡ Ok tt → code_of b < 0x8000 → (8 ≤ bytes_per_scan b) × (bytes_per_scan b ≤ 999999)
scan_is b e m = (
  omega (arith, samples_below (bytes_per_scan b) (samples_of b 0) (bits_of (code_of b)) (sizes b e).many (size_is b e m 0 (first_type b e))),
  ((accepted b e).general.scan m).1,
)

pub subscans_small : (b : List ℕ) → header_fault b ≡ Ok tt → (t s : ℕ) → t < scan_types b → s < channel_sets b → subscans_of b t s ≤ 512
subscans_small b e t s h g = subscans_few b t s ((accepted b e).sets t s h g)

-- ---- groups of four, and of one
pub channels_in_four : (b : List ℕ) → header_fault b ≡ Ok tt → code_of b < 0x8000 → per_of (code_of b) ≡ 4 → (t s : ℕ) → t < scan_types b → s < channel_sets b → channels_of b t s % 4 ≡ 0
channels_in_four b e m p t s h g = channels_by_four b t s ((accepted b e).sets t s h g) m p

pub samples_in_four : (b : List ℕ) → header_fault b ≡ Ok tt → code_of b < 0x8000 → per_of (code_of b) ≡ 4 → (t : ℕ) → t < scan_types b → samples_of b t % 4 ≡ 0
unfolding samples_of
samples_in_four b e m p t h = samples_by_four b t (channel_sets b) (λ s g. channels_in_four b e m p t s h g)

-- E2, in groups: S/S is whole groups, and B is 8 and their bytes
pub scan_in_groups : (b : List ℕ) → header_fault b ≡ Ok tt → code_of b < 0x8000 → (t : ℕ) → t < scan_types b → Grouped (bytes_per_scan b) (samples_of b t) (per_of (code_of b)) (lead_of (code_of b)) (word_bytes_of (code_of b))
scan_in_groups b e m t h =
    grouped (bytes_per_scan b) (samples_of b t) (sizes b e) (size_is b e m t h) (whole_groups (samples_of b t) (sizes b e).words (λ p. samples_in_four b e m p t h))

-- ---- parts of the block
pub length_is : (b : List ℕ) → header_fault b ≡ Ok tt → length b ≡ header_length b
length_is b e = (accepted b e).general.exact

-- the fields of a scan type lie before the extended header
fields_inside : (b : List ℕ) (t : ℕ) → t < scan_types b → fields_before b t + (channel_sets b + skew_fields b) ≤ fields_before b (scan_types b)
fields_inside b t h =
    let w = channel_sets b + skew_fields b in
    let up : (t + 1) * w ≤ scan_types b * w = mul-le-mul_right w (omega arith) in
    omega (arith, add-mul t 1 w)

pub descriptor_inside : (b : List ℕ) → header_fault b ≡ Ok tt → (t s : ℕ) → t < scan_types b → s < channel_sets b → descriptor_place b t s + 32 ≤ length b
unfolding descriptor_place header_length
descriptor_inside b e t s h g = omega (arith, fields_inside b t h, length_is b e)

-- E3: where skew is recorded its fields hold S/S bytes
pub skew_covers : (b : List ℕ) → header_fault b ≡ Ok tt → (skew_fields b ≡ 0 → ⊥) → samples_of b 0 ≤ 32 * skew_fields b
unfolding skew_holds
skew_covers b e z =
    ⊎_elim (λ p. absurd (z (eqb-true (skew_fields b) 0 p)))
    (λ p. let q : skew_fields b ≡ (samples_of b 0 + 31) / 32 = eqb-true _ _ p in omega arith)
    (or_true (eqb (skew_fields b) 0) (eqb (skew_fields b) ((samples_of b 0 + 31) / 32)) (accepted b e).skew)

-- the skew bytes of a scan type, which follow its CS descriptors
pub skew_inside : (b : List ℕ) → header_fault b ≡ Ok tt → (t : ℕ) → t < scan_types b → (skew_fields b ≡ 0 → ⊥) → descriptor_place b t (channel_sets b) + samples_of b t ≤ length b
unfolding descriptor_place header_length
skew_inside b e t h z = omega (arith, fields_inside b t h, length_is b e, same_samples b e t h, skew_covers b e z)

-- the extended header, and the external header to the block's end
pub extended_inside : (b : List ℕ) → header_fault b ≡ Ok tt → 32 * (1 + fields_before b (scan_types b)) + 32 * extended_fields b ≤ length b
unfolding header_length
extended_inside b e = omega (arith, length_is b e)

pub external_inside : (b : List ℕ) → header_fault b ≡ Ok tt → 32 * (1 + fields_before b (scan_types b) + extended_fields b) + 32 * external_fields b ≡ length b
unfolding header_length
external_inside b e = omega (arith, length_is b e)

-- a scan type and a set that are there
pub set_is : (b : List ℕ) (t s : ℕ) → is_set b t s ≡ true → ((1 ≤ t) × (t ≤ scan_types b)) × ((1 ≤ s) × (s ≤ channel_sets b))
unfolding is_set
set_is b t s e =
    let p = and_true (within 1 t (scan_types b)) (within 1 s (channel_sets b)) e in
    (within_is _ _ _ p.0, within_is _ _ _ p.1)

-- each counts to 99
pub set_few : (b : List ℕ) (t s : ℕ) → header_fault b ≡ Ok tt → is_set b t s ≡ true → ((1 ≤ t) × (t ≤ 99)) × ((1 ≤ s) × (s ≤ 99))
set_few b t s e i =
    let p = set_is b t s i in
    ((p.0.0, omega (arith, p.0.1, (types_few b e).1)), (p.1.0, omega (arith, p.1.1, (sets_few b e).1)))

-- S/S fits the word that the fields have for it
pub first_small : (b : List ℕ) → header_fault b ≡ Ok tt → samples_of b 0 ≤ 506829312
first_small b e = samples_small b e 0 (first_type b e)
