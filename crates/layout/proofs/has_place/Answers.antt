-- `layout::has_place` meets its contract: the set is looked for first, so that its numbers fit a byte.
-- Assumes nothing.
use mathlib.Core.Path.{sym, ◌∙◌}
use native.Mathlib.Omega.{arith}
use Rattle.basis.specs.Choice.{◌and◌}
use Rattle.layout.specs.Indexes.{has_place}
use Rattle.layout.proofs.Facts.{set_small, in_range}
use Rattle.layout.proofs.has_place.Goals as goal

pub returns-then-not-is_set : goal.returns-then-not-is_set
unfolding has_place ◌and◌
returns-then-not-is_set c = rw (← c.is_set.ensures, c.if-not-is_set.true)

-- the set is there
pub overflow_sub-t : goal.overflow_sub-t
overflow_sub-t c = omega (arith, (set_small _ _ _ c.args.h.accepted (sym c.is_set.ensures ∙ c.if-not-is_set.false)).0.0)

pub overflow_cast-t : goal.overflow_cast-t
overflow_cast-t c = omega (arith, (set_small _ _ _ c.args.h.accepted (sym c.is_set.ensures ∙ c.if-not-is_set.false)).0.1)

pub overflow_sub-s : goal.overflow_sub-s
overflow_sub-s c = omega (arith, (set_small _ _ _ c.args.h.accepted (sym c.is_set.ensures ∙ c.if-not-is_set.false)).1.0)

pub overflow_cast-s : goal.overflow_cast-s
overflow_cast-s c = omega (arith, (set_small _ _ _ c.args.h.accepted (sym c.is_set.ensures ∙ c.if-not-is_set.false)).1.1)

pub returns : goal.returns
unfolding has_place ◌and◌
returns c =
    rw (c.contains.ensures.value, c.new.ensures.start, c.new.ensures.end, c.new.ensures.exhausted, c.from.ensures, ← c.is_set.ensures, c.if-not-is_set.false, ← c.channels.ensures, ← c.subscans.ensures, c.from-2.ensures, in_range)
