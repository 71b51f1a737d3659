-- `turns::place` meets its contract.
-- Assumes nothing.
use borrow.Author.Rules.{rules}
use borrow.Author.Tests.{le-leb, lt-leb, le-ltb, lt-ltb}
use Rattle.basis.specs.Choice.{pick, ◌and◌}
use Rattle.turns.specs.Places.{has_trace, trace_fault, placed_at}
use Rattle.turns.proofs.place.Goals.{then-word_at-lt32768-via-then-word_at-lt32768, then-word_at-lt32768-via-else-word_at-lt32768+then-trace_count-trace}
use Rattle.turns.proofs.place.Goals as goal

pub returns-in_err-header_fault : goal.returns-in_err-header_fault
unfolding placed_at trace_fault
returns-in_err-header_fault c = rw (← c.header_fault.ensures, c.in_err-header_fault.was) (search rules)

pub returns-then-word_at-lt32768 : goal.returns-then-word_at-lt32768
unfolding placed_at trace_fault has_trace ◌and◌ pick
returns-then-word_at-lt32768 c =
    rw (← c.header_fault.ensures, c.in_ok-header_fault.was, ← c.word_at.ensures)
    (elim c.then-word_at-lt32768.branch [
      | then-word_at-lt32768-via-then-word_at-lt32768 w ↦ rw (lt-leb _ _ w.if-word_at-lt32768.true)
      | then-word_at-lt32768-via-else-word_at-lt32768+then-trace_count-trace w ↦
          rw (le-leb _ _ w.if-word_at-lt32768.false, ← w.trace_count.ensures, le-ltb _ _ w.if-trace_count-trace.true)
    ])

pub returns : goal.returns
unfolding placed_at trace_fault has_trace ◌and◌ pick
returns c = rw (← c.header_fault.ensures, c.in_ok-header_fault.was, ← c.word_at.ensures, le-leb _ _ c.if-word_at-lt32768.false, ← c.trace_count.ensures, lt-ltb _ _ c.if-trace_count-trace.false, ← c.sample_of.ensures)
