-- `trace_stream::byte::Going::word` meets its contract.
-- Assumes nothing.
use Rattle.trace_stream.proofs.Widths.{singles}
use Rattle.trace.specs.Step.{word}
use Rattle.basis.specs.Choice.{pick}
use Rattle.basis.proofs.Rules.{tests}
use native.Mathlib.Omega.{arith}
use Rattle.trace_stream.proofs.byte.Going.word.Goals as goal

pub returns-then-w-eq10 : goal.returns-then-w-eq10
unfolding word pick
returns-then-w-eq10 c = search (tests, c.if-w-eq10.true, c.grouped.ensures)

pub plain-requires : goal.plain-requires
plain-requires c = let a = c in let z = singles a.args.self.state.code a.args.w a.requires.0 a.requires.1 c.if-w-eq10.false in (omega arith, z.0, z.1, omega arith)

pub returns : goal.returns
unfolding word pick
returns c = search (tests, c.if-w-eq10.false, c.plain.ensures)
