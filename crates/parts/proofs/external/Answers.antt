-- `parts::external` meets its contract.
-- Assumes nothing.
use Rattle.parts.specs.Parts.{external_place, external_part}
use Rattle.parts.proofs.Fits.{external_fits}
use Rattle.parts.proofs.external.Goals as goal

pub part_of-requires : goal.part_of-requires
unfolding external_place
part_of-requires c e =
    rw (c.extended_place.ensures.0, c.from.ensures, c.pair_at.ensures.0, c.from-2.ensures, c.pair_at-2.ensures.0) (external_fits _ e)

pub returns : goal.returns
unfolding external_part external_place
returns c =
    rw (← c.extended_place.ensures.0, ← c.pair_at.ensures.0, ← c.from.ensures, ← c.pair_at-2.ensures.0, ← c.from-2.ensures) c.part_of.ensures
