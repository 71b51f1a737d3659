-- The last line is within the buffer of the lines.
-- Assumes nothing.
use Rattle.std.proofs.Common.{sym, length-take-le}
use Rattle.lister.proofs.Room.{last_within}
use Rattle.lister.proofs.list.Goals as goal

pub slice_bounds-lines-end : goal.slice_bounds-lines-end
slice_bounds-lines-end g c = last_within c.loop.progress _ c.finish-length.ensures.0 c.finish-length.ensures.1

pub slice_bounds-write_all-end : goal.slice_bounds-write_all-end
slice_bounds-write_all-end g c =
    sym (length-take-le _ _ (last_within c.loop.progress _ c.finish-length.ensures.0 c.finish-length.ensures.1))
