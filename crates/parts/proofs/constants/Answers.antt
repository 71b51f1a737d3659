-- `parts::constants` meets its contract.
-- Assumes nothing.
use native.Mathlib.Omega.{arith}
use Rattle.parts.specs.Parts.{constants_part}
use Rattle.parts.proofs.Fits.{block_long}
use Rattle.parts.proofs.constants.Goals as goal

pub part_of-requires : goal.part_of-requires
part_of-requires c e = omega (arith, block_long _ e)

pub returns : goal.returns
unfolding constants_part
returns c = c.part_of.ensures
