-- `stream::reading::Reading::run_at` meets its contract.
-- Assumes nothing.
use Rattle.std.proofs.Common.{◌≡◌, ◌+◌, ◌-◌, arith}
use Rattle.stream.specs.Bulk.{chunk_out}
use Rattle.stream.proofs.Parts.{put_part}
use Rattle.stream.proofs.reading.Reading.run_at.Goals as goal

pub returns : goal.returns
unfolding chunk_out
returns c =
    let z = c in
    let e : z.args.i + z.args.k - z.args.i ≡ z.args.k = omega arith in
    let p = put_part z.args.out.now _ _ z.args.n c.run.ensures.out_after in
    record { value = rw e at c.run.ensures.value; out_after = rw e at p }
