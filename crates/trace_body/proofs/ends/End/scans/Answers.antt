-- `trace_body::ends::End::scans` meets its contract.
-- Assumes nothing.
use mathlib.Core.Path.{sym, ◌∙◌, ap₂}
use Prim.Native.Nat.{◌/◌}
use native.Mathlib.Nat.{div-le_self}
use Rattle.trace_body.proofs.Choices.{scans_first}
use Rattle.trace_body.specs.Ends.{scans_by}
use Rattle.basis.specs.Choice.{pick}
use native.Mathlib.Omega.{arith}
use Rattle.std.proofs.lemmas.Bool.{false≢true}
use Rattle.trace_body.proofs.ends.End.scans.Goals as goal

pub returns-then-self : goal.returns-then-self
unfolding scans_by pick
returns-then-self c = (ap₂ ◌/◌ c.samples.ensures.0 (c.from.ensures ∙ c.subscans_at.ensures.0) ∙ sym (scans_first c.args.self.block.now c.args.self.look c.args.self.state c.if-self.true), λ _. omega (arith, div-le_self c.samples.result c.from.result, c.samples.ensures.1))

pub returns : goal.returns
unfolding scans_by pick
returns c = (rw c.if-self.false, λ e. absurd (false≢true (sym c.if-self.false ∙ e)))
