-- The parts of an accepted block, as they are handed out: each has its bytes, and skew one for each sample.
-- Assumes nothing.
use Rattle.std.specs.Prelude.{Ok}
use Prim.Native.Nat.{ℕ, ◌+◌, ◌*◌, ◌-◌}
use mathlib.Core.Path.{◌≡◌, refl}
use mathlib.Core.List.{List}
use native.Mathlib.Omega.{arith}
use lib.ListN.{length, drop, length-drop}
use lib.Seq.{length-take-le}
use Rattle.general.specs.General.{extended_fields, external_fields}
use Rattle.sets.specs.Descriptors.{descriptor_place}
use Rattle.sets.specs.Samples.{samples_of}
use Rattle.header.specs.Faults.{header_fault}
use Rattle.header.proofs.Accepted.{external_inside}
use Rattle.parts.specs.Slices.{slice, part}
use Rattle.parts.specs.Parts.{extended_place, external_place}
use Rattle.skew.specs.Skews.{source, skew_place, skew_fault, skew_of, skew_part}
use Rattle.skew.proofs.Fits.{skew_asked, asked_fits, source_bytes, byte_of_part}
use Rattle.demands.specs.Demand2.{SkewBytes}

pub external_next : (b : List ℕ) → extended_place b + 32 * extended_fields b ≡ external_place b
unfolding external_place
external_next b = refl

pub external_last : (b : List ℕ) → header_fault b ≡ Ok tt → external_place b + 32 * external_fields b ≡ length b
unfolding external_place extended_place descriptor_place
external_last b e = omega (arith, external_inside b e)

module _ (b sheet : List ℕ) (p q : ℕ × ℕ) (t : ℕ) where
  -- what is handed out is S/S bytes of the slice that has the skew
  skew_many : skew_fault b sheet t ≡ Ok tt → length (skew_of (slice p b) (slice q sheet) (t - 1)).bytes ≡ samples_of b (t - 1)
  unfolding skew_of part
  skew_many e =
      let fits = asked_fits b sheet t (skew_asked b sheet t e) in
      rw (source_bytes b sheet p q) (length-take-le (samples_of b (t - 1)) (drop (skew_place b (t - 1)) (source b b sheet)) (simp length-drop (omega (arith, fits))))

  pub skew_bytes_lem : skew_fault b sheet t ≡ Ok tt → SkewBytes b sheet p q t
  unfolding skew_part
  skew_bytes_lem e = record { many = rw e (skew_many e); each = λ k h. rw e (byte_of_part b sheet p q (t - 1) k h) }
