-- `listing::Line::listed` meets its contract: the line is its pieces, one after another.
-- Assumes nothing.
use Rattle.listing.proofs.Pieces.{joins}
use Rattle.listing.proofs.Line.listed.Goals as goal

pub returns : goal.returns
returns c =
    let scans = rw c.from.ensures at c.decimal-2.ensures.text in
    let off = rw c.from-2.ensures at c.decimal-4.ensures.text in
    let file = joins c.text.ensures c.four.ensures.text in
    let format = joins c.text-2.ensures c.four-2.ensures.text in
    let names = joins c.decimal.ensures.text (joins file format) in
    let samples = joins c.text-4.ensures c.decimal-3.ensures.text in
    let counts = joins (joins c.text-3.ensures scans) (joins samples (joins c.text-5.ensures off)) in
    joins names (joins counts c.text-6.ensures)
