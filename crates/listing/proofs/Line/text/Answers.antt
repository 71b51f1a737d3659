-- `listing::Line::text` meets its contract: the part of the buffer from the place on is the text.
-- Assumes nothing.
use Rattle.std.proofs.Common.{refl, rules}
use Rattle.listing.proofs.Pieces.{put_part}
use Rattle.listing.proofs.Line.text.Goals as goal

pub returns : goal.returns
returns c =
    let line = c.args.self.now in
    let e = put_part line.out.now c.args.text.now _ line.at c.requires c.copy_from_slice.ensures.after in
    record { kept = refl; room = search rules; out = e; end = refl }
