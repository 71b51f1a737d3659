-- `stream::reading::Reading::chunk_at` meets its contract.
-- Assumes nothing.
use Rattle.std.proofs.Common.{arith}
use Rattle.stream.proofs.Starts.{start_chunk, start_out}
use Rattle.stream.proofs.reading.Reading.chunk_at.Goals as goal

pub returns-then-s-eq0 : goal.returns-then-s-eq0
returns-then-s-eq0 c =
    let z = c in
    let t = z.requires.takes.start c.if-s-eq0.true in
    (record { value = start_chunk z.args.self.state z.args.bytes.now z.args.i t.1 (λ j. omega (arith, c.type_inv.bytes j)) z.args.k _ t.0 c.started.ensures; out_after = start_out z.args.self.state z.args.bytes.now z.args.i t.1 (λ j. omega (arith, c.type_inv.bytes j)) z.args.k z.args.n _ t.0 })
