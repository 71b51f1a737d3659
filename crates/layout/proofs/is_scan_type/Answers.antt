-- `layout::is_scan_type` meets its contract.
-- Assumes nothing.
use Rattle.layout.proofs.Facts.{in_range}
use Rattle.layout.proofs.is_scan_type.Goals as goal

pub returns : goal.returns
returns c = rw (c.contains.ensures.value, c.new.ensures.start, c.new.ensures.end, c.new.ensures.exhausted, c.from.ensures, c.pair_at.ensures.0) (in_range _ _ _)
