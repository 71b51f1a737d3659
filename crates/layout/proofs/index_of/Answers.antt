-- `layout::index_of` meets its contract: an accepted header has few samples in a scan.
-- Assumes nothing.
use mathlib.Core.Path.{◌∙◌}
use native.Mathlib.Omega.{arith}
use Rattle.layout.specs.Indexes.{index_of}
use Rattle.layout.proofs.Inverses.{sample_small, total_small}
use Rattle.layout.proofs.index_of.Goals as goal

pub overflow_sub-t : goal.overflow_sub-t
overflow_sub-t c = omega (arith, (sample_small _ _ _ _ _ c.args.h.accepted c.requires).scan.0)

pub overflow_cast-t : goal.overflow_cast-t
overflow_cast-t c = omega (arith, (sample_small _ _ _ _ _ c.args.h.accepted c.requires).scan.1)

pub overflow_sub-s : goal.overflow_sub-s
overflow_sub-s c = omega (arith, (sample_small _ _ _ _ _ c.args.h.accepted c.requires).set.0)

pub overflow_cast-s : goal.overflow_cast-s
overflow_cast-s c = omega (arith, (sample_small _ _ _ _ _ c.args.h.accepted c.requires).set.1)

pub overflow_cast-before : goal.overflow_cast-before
overflow_cast-before c = omega (arith, (sample_small _ _ _ _ _ c.args.h.accepted c.requires).total, c.samples_before-before.ensures.0)

pub overflow_mul-result : goal.overflow_mul-result
overflow_mul-result c = omega (arith, total_small _ _ _ _ _ c.args.h.accepted c.requires c.samples_before-before.ensures.0 (c.from-n.ensures ∙ c.channels.ensures))

pub overflow_sub-result : goal.overflow_sub-result
overflow_sub-result c = omega (arith, (sample_small _ _ _ _ _ c.args.h.accepted c.requires).channel)

pub overflow_add-result : goal.overflow_add-result
overflow_add-result c = omega (arith, total_small _ _ _ _ _ c.args.h.accepted c.requires c.samples_before-before.ensures.0 (c.from-n.ensures ∙ c.channels.ensures))

pub overflow_add-result-2 : goal.overflow_add-result-2
overflow_add-result-2 c = omega (arith, total_small _ _ _ _ _ c.args.h.accepted c.requires c.samples_before-before.ensures.0 (c.from-n.ensures ∙ c.channels.ensures))

pub returns : goal.returns
unfolding index_of
returns c = cc
