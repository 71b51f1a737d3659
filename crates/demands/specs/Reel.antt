-- The lister: what it hands over to be written of a reel is what the rules give, however the image is cut.
-- Assumes nothing.
use Rattle.framing.specs.Cuts.{Framed}
use Rattle.lister.specs.Listed.{Listed}

pub record Reel : Type 0 where
  -- the items, the marks and the ending that a reader of portions is told are those of the whole image
  pub framed : Framed
  -- the bytes that its calls hand over are the lines of the whole image: each file's by its header and by the rules of its uncut body, and the last
  pub listed : Listed
