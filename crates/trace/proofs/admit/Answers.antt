-- `trace::admit` meets its contract.
-- Assumes nothing.
use borrow.Author.Rules.{rules}
use Rattle.basis.specs.Choice.{pick}
use Rattle.trace.specs.Answers.{admitted}
use Rattle.trace.proofs.Facts.{counted_fit}
use Rattle.trace.proofs.admit.Goals as goal

pub returns-in_err-header_fault : goal.returns-in_err-header_fault
unfolding admitted
returns-in_err-header_fault c = rw (← c.header_fault.ensures, c.in_err-header_fault.was) (search rules)

pub returns-then-fits : goal.returns-then-fits
unfolding admitted pick
returns-then-fits c =
    let q = counted_fit c.args.b.now c.args.s _ c.trace_count-traces.ensures c.fits.ensures in
    rw (← c.header_fault.ensures, c.in_ok-header_fault.was, ← q, c.if-fits.true, c.trace_count-traces.ensures)

pub returns : goal.returns
unfolding admitted pick
returns c =
    let q = counted_fit c.args.b.now c.args.s _ c.trace_count-traces.ensures c.fits.ensures in
    rw (← c.header_fault.ensures, c.in_ok-header_fault.was, ← q, c.if-fits.false)
