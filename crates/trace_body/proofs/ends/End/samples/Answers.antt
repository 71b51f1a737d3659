-- `trace_body::ends::End::samples` meets its contract.
-- Assumes nothing.
use borrow.Author.Tests.{eq-eqb, ne_eqb}
use native.Mathlib.Nat.{div-le_self}
use native.Mathlib.Omega.{arith}
use Rattle.trace_body.specs.Ends.{samples_of}
use Rattle.basis.specs.Choice.{pick}
use Rattle.trace_body.proofs.ends.End.samples.Goals as goal

pub returns-then-self-eq10 : goal.returns-then-self-eq10
unfolding samples_of pick
returns-then-self-eq10 c = (rw (eq-eqb _ _ c.if-self-eq10.true, c.bytes.ensures), omega (arith, c.bytes.ensures))

pub returns : goal.returns
unfolding samples_of pick
returns c = (rw (ne_eqb _ _ c.if-self-eq10.false, c.bytes-2.ensures), omega (arith, c.bytes-2.ensures, div-le_self c.bytes-2.result c.args.self.look.group))
