-- `trace_body::ended` meets its contract.
-- Assumes nothing.
use borrow.Author.Tests.{eq-eqb, lt-ltb, le-ltb}
use mathlib.Core.Path.{sym, ◌∙◌}
use Rattle.basis.specs.Choice.{pick}
use Rattle.basis.proofs.Rules.{tests}
use Rattle.trace_body.proofs.Choices.{ended_tally}
use Rattle.trace_body.specs.Ends.{ended}
use Rattle.trace_body.proofs.ends.ended.Goals as goal
use Rattle.trace_body.proofs.ends.ended.Goals.{then-k-via-then-k, then-k-via-else-k+then-s-lt20}

pub returns-then-s-ne0 : goal.returns-then-s-ne0
unfolding ended pick
returns-then-s-ne0 c = search (tests, c.if-s-ne0.true)

pub returns-then-k : goal.returns-then-k
unfolding ended pick
returns-then-k c =
    elim c.then-k.branch [
      | then-k-via-then-k w ↦ rw (eq-eqb _ _ c.if-s-ne0.false, w.if-k.true) c.halted.ensures
      | then-k-via-else-k+then-s-lt20 w ↦ rw (eq-eqb _ _ c.if-s-ne0.false, w.if-k.false, lt-ltb _ _ w.if-s-lt20.true) c.halted.ensures
    ]

pub returns-then-uneven : goal.returns-then-uneven
unfolding ended pick
returns-then-uneven c = rw (eq-eqb _ _ c.if-s-ne0.false, c.if-k.false, le-ltb _ _ c.if-s-lt20.false, ← c.uneven.ensures, c.if-uneven.true) c.halted-then-uneven.ensures

pub returns : goal.returns
unfolding ended pick
returns c = c.tally.ensures ∙ sym (ended_tally c.args.b.now c.args.k c.args.s (eq-eqb _ _ c.if-s-ne0.false) c.if-k.false (le-ltb _ _ c.if-s-lt20.false) (sym c.uneven.ensures ∙ c.if-uneven.false))
