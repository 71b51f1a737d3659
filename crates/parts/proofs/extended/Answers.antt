-- `parts::extended` meets its contract.
-- Assumes nothing.
use Rattle.parts.specs.Parts.{extended_part}
use Rattle.parts.proofs.Fits.{extended_fits}
use Rattle.parts.proofs.extended.Goals as goal

pub part_of-requires : goal.part_of-requires
part_of-requires c e = rw (c.extended_place.ensures.0, c.from-n.ensures, c.pair_at.ensures.0) (extended_fits _ e)

pub returns : goal.returns
unfolding extended_part
returns c = rw (← c.extended_place.ensures.0, ← c.pair_at.ensures.0, ← c.from-n.ensures) c.part_of.ensures
