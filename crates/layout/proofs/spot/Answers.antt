-- `layout::spot` meets its contract: the set of a sample begins at it or before, and has a channel.
-- Assumes nothing.
use Prim.Native.Nat.{◌-◌}
use mathlib.Core.Path.{◌∙◌}
use native.Mathlib.Omega.{arith}
use native.Mathlib.Nat.{mod-lt}
use Rattle.layout.specs.Indexes.{spot_of}
use Rattle.layout.proofs.Inverses.{spot_begins, spot_some}
use Rattle.layout.proofs.spot.Goals as goal

pub overflow_cast-j : goal.overflow_cast-j
overflow_cast-j c = omega (arith, spot_begins _ _ _ c.requires c.set_of-s.ensures c.samples_before.ensures.0)

pub overflow_sub-j : goal.overflow_sub-j
overflow_sub-j c = spot_begins _ _ _ c.requires c.set_of-s.ensures c.samples_before.ensures.0

pub nonzero_rem-result : goal.nonzero_rem-result
nonzero_rem-result c = omega (arith, spot_some _ _ _ c.requires c.set_of-s.ensures (c.from-n.ensures ∙ c.channels.ensures))

pub overflow_add-result-2 : goal.overflow_add-result-2
overflow_add-result-2 c = omega (arith, mod-lt (c.args.k - c.samples_before.result) (spot_some _ _ _ c.requires c.set_of-s.ensures (c.from-n.ensures ∙ c.channels.ensures)))

pub nonzero_div-result : goal.nonzero_div-result
nonzero_div-result c = omega (arith, spot_some _ _ _ c.requires c.set_of-s.ensures (c.from-n.ensures ∙ c.channels.ensures))

pub returns : goal.returns
unfolding spot_of
returns c = cc
