-- `layout::sample_index` meets its contract.
-- Assumes nothing.
use borrow.Author.Rules.{rules}
use Rattle.basis.specs.Choice.{pick}
use Rattle.layout.specs.Indexes.{index_fault, index_answer}
use Rattle.layout.proofs.sample_index.Goals as goal

pub returns-in_err-h : goal.returns-in_err-h
unfolding index_answer index_fault
returns-in_err-h c = rw c.in_err-h.ensures.err (search rules)

pub returns-then-not-has_place : goal.returns-then-not-has_place
unfolding index_answer index_fault pick
returns-then-not-has_place c = rw (← c.in_ok-h.ensures.ok, c.in_ok-h.h.accepted, ← c.has_place.ensures, c.if-not-has_place.true)

pub returns : goal.returns
unfolding index_answer index_fault pick
returns c = rw (← c.in_ok-h.ensures.ok, c.in_ok-h.h.accepted, ← c.has_place.ensures, c.if-not-has_place.false, ← c.index_of.ensures)
