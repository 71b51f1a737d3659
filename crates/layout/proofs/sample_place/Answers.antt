-- `layout::sample_place` meets its contract.
-- Assumes nothing.
use mathlib.Core.Path.{sym, ◌∙◌}
use native.Mathlib.Omega.{arith}
use borrow.Author.Rules.{rules}
use Rattle.layout.specs.Indexes.{place_answer}
use Rattle.layout.proofs.Inverses.{place_small}
use Rattle.layout.proofs.sample_place.Goals as goal

pub overflow_sub-scan_type : goal.overflow_sub-scan_type
overflow_sub-scan_type c = omega (arith, (place_small _ _ _ (sym c.place_fault.ensures ∙ c.in_ok-place_fault.was)).0)

pub overflow_cast-scan_type : goal.overflow_cast-scan_type
overflow_cast-scan_type c = omega (arith, (place_small _ _ _ (sym c.place_fault.ensures ∙ c.in_ok-place_fault.was)).1)

pub spot-requires : goal.spot-requires
spot-requires c = (place_small _ _ _ (sym c.place_fault.ensures ∙ c.in_ok-place_fault.was)).2

pub returns-in_err-place_fault : goal.returns-in_err-place_fault
unfolding place_answer
returns-in_err-place_fault c = rw (← c.place_fault.ensures, c.in_err-place_fault.was) (search rules)

pub returns : goal.returns
unfolding place_answer
returns c = rw (← c.place_fault.ensures, c.in_ok-place_fault.was, ← c.spot.ensures)
