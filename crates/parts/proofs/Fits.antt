-- The parts lie within the block that they are parts of.
-- Assumes nothing.
use Rattle.std.specs.Prelude.{Ok}
use Prim.Native.Nat.{ℕ, ◌+◌, ◌*◌, ◌≤◌}
use mathlib.Core.Path.{◌≡◌}
use mathlib.Core.List.{List}
use native.Mathlib.Omega.{arith}
use lib.ListN.{length}
use Rattle.general.specs.General.{extended_fields, external_fields, header_length}
use Rattle.sets.specs.Descriptors.{descriptor_place}
use Rattle.header.specs.Faults.{header_fault}
use Rattle.header.proofs.Accepted.{length_is, extended_inside, external_inside}
use Rattle.parts.specs.Parts.{extended_place, external_place}

pub block_long : (b : List ℕ) → header_fault b ≡ Ok tt → 32 ≤ length b
unfolding header_length
block_long b e = omega (arith, length_is b e)

pub extended_fits : (b : List ℕ) → header_fault b ≡ Ok tt → extended_place b + 32 * extended_fields b ≤ length b
unfolding extended_place descriptor_place
extended_fits b e = omega (arith, extended_inside b e)

pub external_fits : (b : List ℕ) → header_fault b ≡ Ok tt → external_place b + 32 * external_fields b ≤ length b
unfolding external_place extended_place descriptor_place
external_fits b e = omega (arith, external_inside b e)
