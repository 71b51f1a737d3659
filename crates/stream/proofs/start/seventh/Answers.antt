-- `stream::start::seventh` meets its contract.
-- Assumes nothing.
use Rattle.std.proofs.Common.{◌+◌, arith}
use Rattle.runs.proofs.Bytes.{four_there}
use Rattle.scan.specs.Step.{moved_by}
use Rattle.stream.specs.Starts.{seventh}
use Rattle.stream.proofs.start.seventh.Goals as goal

pub returns : goal.returns
unfolding seventh moved_by
returns c =
    let z = c in
    rw (c.four_at.ensures, four_there z.args.bytes.now (z.args.i + 3) (omega arith), c.typed.ensures)
