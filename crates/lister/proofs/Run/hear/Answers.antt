-- `lister::Run::hear` meets its contract: one case for each thing met.
-- Assumes nothing.
use Rattle.std.proofs.Common.{refl}
use Rattle.listing.proofs.Lent.{none}
use Rattle.lister.proofs.Run.hear.Goals as goal

pub returns-in-Framing : goal.returns-in-Framing
returns-in-Framing c =
    let r = c.args.self.now in
    let n = none r.lines.now r.end in
    rw c.in-Framing.is
    (record { same_header = refl; same_numbers = refl; same_lines = refl; progress_is = refl; header_is = refl; numbers_is = refl; lines_is = n.1; end_is = n.0 })

pub returns-in-Part : goal.returns-in-Part
returns-in-Part c =
    let r = c.args.self.now in
    let n = none r.lines.now r.end in
    let p = c.part-self.ensures in
    rw c.in-Part.is
    (record { same_header = refl; same_numbers = refl; same_lines = refl; progress_is = rw p.0; header_is = p.1; numbers_is = p.2; lines_is = n.1; end_is = n.0 })

pub returns-in-Whole : goal.returns-in-Whole
returns-in-Whole c =
    let r = c.args.self.now in
    let n = none r.lines.now r.end in
    let p = c.part-file.ensures in
    rw c.in-Whole.is
    (record { same_header = refl; same_numbers = refl; same_lines = refl; progress_is = rw (c.item_end-self.ensures, p.0, p.1); header_is = p.1; numbers_is = p.2; lines_is = n.1; end_is = n.0 })
