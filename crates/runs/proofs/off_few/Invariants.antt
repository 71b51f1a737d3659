-- `runs::off_few` meets its contract: its loop keeps that the first bytes are counted.
-- Assumes nothing.
use Rattle.std.proofs.Common.{◌≡◌}
use Rattle.runs.specs.Words.{byte_value}
use Rattle.runs.specs.Runs.{offs}
use Rattle.runs.proofs.off_few.Given as goal

abbrev pub invariant-loop-b : goal.invariant-loop-b
invariant-loop-b l = l.off ≡ offs (byte_value l.code l.bytes) l.b-index
