-- `lister::Run::mark` meets its contract: none is as before.
-- Assumes nothing.
use Rattle.std.proofs.Common.{refl}
use Rattle.listing.proofs.Lent.{none}
use Rattle.lister.proofs.Run.mark.Goals as goal

pub returns-in_default : goal.returns-in_default
returns-in_default c =
    let r = c.args.self.now in
    let n = none r.lines.now r.end in
    rw (← c.outcome-said.ensures, c.in_default.is)
    (record { same_header = refl; same_numbers = refl; same_lines = refl; progress_is = refl; header_is = refl; numbers_is = refl; lines_is = n.1; end_is = n.0 })
