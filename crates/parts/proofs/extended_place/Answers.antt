-- `parts::extended_place` meets its contract.
-- Assumes nothing.
use native.Mathlib.Omega.{arith}
use Rattle.sets.specs.Descriptors.{descriptor_place}
use Rattle.parts.specs.Parts.{extended_place}
use Rattle.parts.proofs.extended_place.Goals as goal

pub returns : goal.returns
unfolding extended_place descriptor_place
returns c = (rw (c.fields_before.ensures.0, c.pair_at.ensures.0) (omega arith), omega (arith, c.fields_before.ensures.1))
