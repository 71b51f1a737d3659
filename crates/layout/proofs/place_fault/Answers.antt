-- `layout::place_fault` meets its contract.
-- Assumes nothing.
use borrow.Author.Rules.{rules}
use Rattle.layout.specs.Indexes.{place_fault}
use Rattle.layout.proofs.Facts.{refuses}
use Rattle.layout.proofs.place_fault.Goals as goal

pub returns-in_err-h : goal.returns-in_err-h
unfolding place_fault
returns-in_err-h c = rw c.in_err-h.ensures.err (search rules)

pub returns : goal.returns
unfolding place_fault
returns c = rw (c.ok_or.ensures.value, c.then_some.ensures, c.has_sample.ensures, ← c.in_ok-h.ensures.ok, c.in_ok-h.h.accepted) (refuses _ _)
