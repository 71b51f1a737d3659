-- `body::ends::end` meets its contract.
-- Assumes nothing.
use native.Mathlib.Nat.{div-le_self}
use Rattle.body.proofs.BlockEnds.{due_ends}
use mathlib.Core.Path.{sym, ◌∙◌}
use Rattle.body.specs.Ends.{ended, one_end}
use Rattle.scan.specs.Step.{halted}
use Rattle.stream.specs.Calls.{answered}
use Rattle.basis.specs.Choice.{pick}
use Rattle.basis.proofs.Rules.{tests}
use native.Mathlib.Omega.{arith}
use Rattle.body.proofs.ends.end.Goals as goal

pub returns-then-s-ne0 : goal.returns-then-s-ne0
unfolding ended one_end halted answered pick
returns-then-s-ne0 c = search (tests, c.if-s-ne0.true, c.stop_refusal.ensures)

pub overflow_add-result : goal.overflow_add-result
overflow_add-result c =
    let s = c.args.s in
    let h = due_ends _ _ _ _ (sym c.due.ensures ∙ c.if-due.true) in
    omega (arith, h, div-le_self s.place s.shape.scan, c.well_formed)

pub returns-then-due : goal.returns-then-due
unfolding ended one_end halted pick
returns-then-due c = search (tests, sym c.due.ensures ∙ c.if-due.true, c.if-s-ne0.false)

pub returns : goal.returns
unfolding ended one_end halted pick
returns c = search (tests, sym c.due.ensures ∙ c.if-due.false, c.if-s-ne0.false)
