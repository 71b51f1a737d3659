-- `layout::has_sample` meets its contract.
-- Assumes nothing.
use mathlib.Core.Path.{sym, ◌∙◌}
use native.Mathlib.Omega.{arith}
use Rattle.basis.specs.Choice.{◌and◌}
use Rattle.layout.specs.Indexes.{has_sample}
use Rattle.layout.proofs.Facts.{scan_small}
use Rattle.layout.proofs.has_sample.Goals as goal

pub overflow_sub-t : goal.overflow_sub-t
overflow_sub-t c = omega (arith, (scan_small _ _ c.args.h.accepted (sym c.is_scan_type.ensures ∙ c.if-is_scan_type.true)).0)

pub overflow_cast-t : goal.overflow_cast-t
overflow_cast-t c = omega (arith, (scan_small _ _ c.args.h.accepted (sym c.is_scan_type.ensures ∙ c.if-is_scan_type.true)).1)

pub returns-then-is_scan_type : goal.returns-then-is_scan_type
unfolding has_sample ◌and◌
returns-then-is_scan_type c = rw (← c.is_scan_type.ensures, c.if-is_scan_type.true, ← c.samples.ensures.0)

pub returns-else-is_scan_type : goal.returns-else-is_scan_type
unfolding has_sample ◌and◌
returns-else-is_scan_type c = rw (← c.is_scan_type.ensures, c.if-is_scan_type.false)
