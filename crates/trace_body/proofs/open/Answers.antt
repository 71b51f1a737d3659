-- `trace_body::open` meets its contract.
-- Assumes nothing.
use borrow.Author.Tests.{le-leb, lt-leb}
use Rattle.basis.specs.Choice.{pick}
use Rattle.trace_body.specs.Open.{opened}
use Rattle.trace_body.proofs.open.Goals as goal
use Rattle.trace_body.proofs.open.Goals.{in_default-via-in-Ok+else-code-ge32768, in_default-via-in_default}

pub returns-in-Ok : goal.returns-in-Ok
unfolding opened pick
returns-in-Ok c = rw (← c.header_fault.ensures, c.in-Ok.is, ← c.word_at-code.ensures, le-leb _ _ c.if-code-ge32768.true) c.fresh.ensures

pub returns-in_default : goal.returns-in_default
unfolding opened pick
returns-in_default c =
    elim c.in_default.branch [
      | in_default-via-in-Ok+else-code-ge32768 w ↦
          rw (← c.header_fault.ensures, w.in-Ok.is, ← c.word_at-code.ensures, lt-leb _ _ w.if-code-ge32768.false) c.fresh-in_default.ensures
      | in_default-via-in_default w ↦ rw (← c.header_fault.ensures, w.in_default.is) c.fresh-in_default.ensures
    ]
