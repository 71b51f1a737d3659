-- `stream::reading::Reading::ahead` meets its contract.
-- Assumes nothing.
use Rattle.std.proofs.Common.{mod-lt}
use Rattle.stream.proofs.Readers.{fit_width, width_some}
use Rattle.stream.proofs.reading.Reading.ahead.Goals as goal

pub group_place-requires : goal.group_place-requires
group_place-requires c =
    let z = c in
    (c.if-q-lt8.false, fit_width z.args.self.state z.args.self.group z.args.self.fit z.args.self.grouped)

pub words_ahead-requires : goal.words_ahead-requires
words_ahead-requires c =
    let z = c in
    let w = fit_width z.args.self.state z.args.self.group z.args.self.fit z.args.self.grouped in
    (w, rw c.group_place.ensures (mod-lt _ {m = z.args.self.group} (width_some z.args.self.group w)))
