-- What a question for skew or time that is not refused tells: the skew bytes lie within the slice that has them, and byte k is that of sample k.
-- Assumes nothing.
use Rattle.std.specs.Prelude.{Ok}
use Prim.Native.Nat.{ℕ, ◌+◌, ◌*◌, ◌-◌, ◌^◌, ◌≤◌, ◌<◌}
use mathlib.Core.Path.{◌≡◌, refl, ◌∙◌, ap}
use mathlib.Core.Bool.{Bool, true, false, not, ◌||◌}
use mathlib.Core.List.{List}
use native.Mathlib.Nat.{mul-le-mul_right, add-mul}
use native.Mathlib.Omega.{arith}
use lib.Dec.{eqb, ltb}
use lib.ListN.{length, get_or}
use lib.Seq.{get_or-take, get_or-drop}
use borrow.Author.Tests.{eqb-true, eqb-false, ltb-true}
use Rattle.basis.specs.Choice.{pick}
use Rattle.refusals.specs.declared.Refusal.TheVariants.{Index, Sheet}
use Rattle.refusals.specs.Order.{when}
use Rattle.refusals.proofs.Clears.{both_clear}
use Rattle.general.specs.General.{scan_types, channel_sets, skew_fields, within}
use Rattle.general.proofs.Kept.{within_is}
use Rattle.sets.specs.Descriptors.{descriptor_place}
use Rattle.sets.specs.Samples.{samples_of}
use Rattle.header.specs.Faults.{header_fault}
use Rattle.header.proofs.Accepted.{types_few, same_samples, skew_inside}
use Rattle.layout.specs.Indexes.{place_fault}
use Rattle.layout.proofs.Facts.{kept}
use Rattle.layout.proofs.Inverses.{place_clear, place_asked}
use Rattle.parts.specs.Slices.{Slice, slice, part}
use Rattle.skew.specs.Skews.{source, skew_place, sheet_holds, skew_fault, skew_of, skew_byte, skew_byte_fault}
use Rattle.skew.specs.Times.{time_fault}

-- what a question for skew that is not refused tells: scan type t counts from 1
pub record Asked (b sheet : List ℕ) (t : ℕ) : Type 0 where
  pub accepts : header_fault b ≡ Ok tt
  pub least : 1 ≤ t
  pub greatest : t ≤ scan_types b
  pub small : t ≤ 99
  pub holds : sheet_holds b sheet ≡ true

pub skew_asked : (b sheet : List ℕ) (t : ℕ) → skew_fault b sheet t ≡ Ok tt → Asked b sheet t
unfolding skew_fault
skew_asked b sheet t e =
    let p = both_clear (header_fault b) _ e in
    let q = both_clear (when (not (within 1 t (scan_types b))) Index) _ p.1 in
    let w = within_is 1 t (scan_types b) (kept (within 1 t (scan_types b)) Index q.0) in
    record { accepts = p.0; least = w.0; greatest = w.1; small = omega (arith, w.1, (types_few b p.0).1); holds = kept (sheet_holds b sheet) Sheet q.1 }

pub byte_asked : (b sheet : List ℕ) (t k : ℕ) → skew_byte_fault b sheet t k ≡ Ok tt → Asked b sheet t × (k < samples_of b (t - 1))
unfolding skew_byte_fault
byte_asked b sheet t k e =
    let p = both_clear (place_fault b t k) _ e in
    let v = place_clear b t k p.0 in
    let w = place_asked b t k v.1 in
    (record { accepts = v.0; least = w.0; greatest = w.1; small = omega (arith, w.1, (types_few b v.0).1); holds = kept (sheet_holds b sheet) Sheet p.1 }, w.2)

-- the skew bytes of scan type t, counting from 0
pub skew_fits : (b sheet : List ℕ) (t : ℕ) → header_fault b ≡ Ok tt → t < scan_types b → sheet_holds b sheet ≡ true → skew_place b t + samples_of b t ≤ length (source b b sheet)
unfolding skew_place source sheet_holds pick
skew_fits b sheet t e h = by_test (eqb (skew_fields b) 0) refl
  where
    by_test : (x : Bool) → eqb (skew_fields b) 0 ≡ x → (not x || eqb (length sheet) (scan_types b * samples_of b 0)) ≡ true
        → pick x (t * samples_of b t) (descriptor_place b t (channel_sets b)) + samples_of b t ≤ length (pick x sheet b)
    by_test true p q =
        let n = samples_of b t in
        let up : (t + 1) * n ≤ scan_types b * n = mul-le-mul_right n (omega arith) in
        let len : length sheet ≡ scan_types b * n = eqb-true _ _ q ∙ rw (same_samples b e t h) in
        omega (arith, add-mul t 1 n)
    by_test false p q = skew_inside b e t h (eqb-false (skew_fields b) 0 p)

pub asked_fits : (b sheet : List ℕ) (t : ℕ) → Asked b sheet t → skew_place b (t - 1) + samples_of b (t - 1) ≤ length (source b b sheet)
asked_fits b sheet t a = skew_fits b sheet (t - 1) a.accepts (omega (arith, a.least, a.greatest)) a.holds

-- the bytes of the slice that has the skew
pub source_bytes : (b sheet : List ℕ) (p q : ℕ × ℕ) → (source b (slice p b) (slice q sheet)).bytes ≡ source b b sheet
unfolding source pick
source_bytes b sheet p q = by_test (eqb (skew_fields b) 0)
  where
    by_test : (x : Bool) → (pick x (slice q sheet) (slice p b)).bytes ≡ pick x sheet b
    by_test true = refl
    by_test false = refl

pub lent_bytes : (b sheet : List ℕ) (p q r : ℕ × ℕ) (l : List ℕ) → slice r l ≡ source b (slice p b) (slice q sheet) → l ≡ source b b sheet
lent_bytes b sheet p q r l e = ap (λ (s : Slice). s.bytes) e ∙ source_bytes b sheet p q

-- a question for a time that is not refused
pub time_clear : (b sheet : List ℕ) (t k T : ℕ) → time_fault b sheet t k T ≡ Ok tt → (skew_byte_fault b sheet t k ≡ Ok tt) × (T < 2 ^ 24)
unfolding time_fault skew_byte_fault
time_clear b sheet t k T e =
    let p = both_clear (place_fault b t k) _ e in
    let q = both_clear (when (not (ltb T (2 ^ 24))) Index) _ p.1 in
    (rw p.0 q.1, ltb-true T (2 ^ 24) (kept (ltb T (2 ^ 24)) Index q.0))

-- sample k's skew byte is byte k of the part that is handed out
pub byte_of_part : (b sheet : List ℕ) (p q : ℕ × ℕ) (t k : ℕ) → k < samples_of b t → get_or (skew_of (slice p b) (slice q sheet) t).bytes k 0 ≡ skew_byte b sheet t k
unfolding skew_of skew_byte part
byte_of_part b sheet p q t k h =
    get_or-take (samples_of b t) _ k 0 h ∙ get_or-drop (skew_place b t) _ k 0 ∙ ap (λ (s : List ℕ). get_or s (skew_place b t + k) 0) (source_bytes b sheet p q)
