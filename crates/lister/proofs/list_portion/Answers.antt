-- What is written is within the buffer of the lines, since that has room for a portion.
-- Assumes nothing.
use Rattle.std.proofs.Common.{sym, length-take-le}
use Rattle.lister.proofs.Room.{roomy_is, walked_within}
use Rattle.lister.proofs.list_portion.Goals as goal

pub slice_bounds-write_all-end : goal.slice_bounds-write_all-end
slice_bounds-write_all-end g c = walked_within _ _ _ _ _ (roomy_is _ _ _ _ c.requires) c.walk-made.ensures.0 c.walk-made.ensures.3

pub slice_bounds-write_all-end-2 : goal.slice_bounds-write_all-end-2
slice_bounds-write_all-end-2 g c =
    sym (length-take-le _ _ (walked_within _ _ _ _ _ (roomy_is _ _ _ _ c.requires) c.walk-made.ensures.0 c.walk-made.ensures.3))
