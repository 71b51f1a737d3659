-- What turns a header block away: "Header order is 1 to 10". Scan type t counts from 0 here, and from 1 in a refusal.
-- Assumes nothing.
use Rattle.std.specs.Prelude.{ℕ, ◌+◌, ◌*◌, ◌/◌, Bool, not, ◌||◌, List, eqb, Result, ⊤}
use Rattle.refusals.specs.declared.Refusal.TheVariants.{Size, Skew}
use Rattle.refusals.specs.Order.{when, or_else, first_upto}
use Rattle.codes.specs.Codes.{bits_of, demultiplexed}
use Rattle.basis.specs.Choice.{pick}
use Rattle.general.specs.General.{code_of, bytes_per_scan, scan_types, skew_fields, general_fault}
use Rattle.sets.specs.Descriptors.{descriptors_fault}
use Rattle.sets.specs.Samples.{samples_of}
use Rattle.refusals.specs.declared.Refusal.{Refusal}

-- E2 of a scan type, in bits: "B = 8 + S/S x bytes per sample"; of an 80xx code "every scan type has the same S/S"
unfoldable pub size_holds : List ℕ → ℕ → Bool
size_holds b t =
    pick (demultiplexed (code_of b)) (eqb (samples_of b t) (samples_of b 0))
    (eqb (8 * bytes_per_scan b) (8 * 8 + samples_of b t * bits_of (code_of b)))

-- "B differs; with the first such scan type"
unfoldable pub size_fault : List ℕ → ℕ → Result ⊤ Refusal
size_fault b t = when (not (size_holds b t)) (Size (t + 1))

-- of every scan type, in order
unfoldable pub sizes_fault : List ℕ → Result ⊤ Refusal
sizes_fault b = first_upto (size_fault b) (scan_types b)

-- E3: SK is 0, "or S/S divided by 32, rounded up"; of scan type 1, since SIZE, which comes before, makes all alike
unfoldable pub skew_holds : List ℕ → Bool
skew_holds b = eqb (skew_fields b) 0 || eqb (skew_fields b) ((samples_of b 0 + 31) / 32)

-- the first refusal of a header block
unfoldable pub header_fault : List ℕ → Result ⊤ Refusal
header_fault b =
    or_else (general_fault b) (or_else (descriptors_fault b) (or_else (sizes_fault b) (when (not (skew_holds b)) Skew)))
