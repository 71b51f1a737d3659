-- `listing::Line::refused` meets its contract: the line is its pieces, one after another.
-- Assumes nothing.
use Rattle.listing.proofs.Pieces.{joins}
use Rattle.listing.proofs.Line.refused.Goals as goal

pub returns : goal.returns
returns c =
    let number = rw (c.from.ensures, c.tell-told.ensures) at c.decimal-2.ensures.text in
    let at = rw (c.from-2.ensures, c.place.ensures) at c.decimal-3.ensures.text in
    let tail = joins c.text-2.ensures (joins at c.text-3.ensures) in
    joins c.decimal.ensures.text (joins c.text.ensures (joins number tail))
