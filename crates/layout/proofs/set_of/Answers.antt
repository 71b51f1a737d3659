-- `layout::set_of` meets its contract. The loop keeps the end of the last set, and how many sets were passed.
-- Assumes nothing.
use Prim.Native.Nat.{◌+◌, ◌*◌, ◌^◌}
use mathlib.Core.Path.{◌≡◌, refl}
use native.Mathlib.Omega.{arith}
use borrow.Author.Rules.{rules}
use Rattle.basis.specs.Upto.{upto, sum_upto}
use Rattle.basis.proofs.Numbers.{product_lt}
use Rattle.sets.specs.Samples.{set_samples}
use Rattle.layout.specs.Indexes.{set_at, set_of}
use Rattle.layout.proofs.SetLaws.{sum_more, set_more, set_at_lem, byte_is, byte_small}
use Rattle.layout.proofs.set_of.Goals as goal

pub loop-s-init : goal.loop-s-init
unfolding upto set_at
loop-s-init c = (refl, refl, search rules)

pub overflow_add-passed : goal.overflow_add-passed
overflow_add-passed c = omega (arith, byte_small _ c.from-passed.ensures, c.loop-s.invariant.1, (set_at_lem (set_samples c.args.b.now c.args.t) c.args.k c.loop-s.s).inside)

pub loop-s-preserved : goal.loop-s-preserved
unfolding set_samples
loop-s-preserved c =
    let e : c.loop-s.end + c.from.result * c.from-in-loop-s.result ≡ sum_upto (set_samples c.args.b.now c.args.t) (c.loop-s.s + 1) =
    rw (sum_more, ← c.loop-s.invariant.0, ← c.channels.ensures, ← c.subscans.ensures, c.from.ensures, c.from-in-loop-s.ensures) in
    (e, rw (set_more, ← e, c.from-passed.ensures, byte_is, ← c.loop-s.invariant.1), omega (arith, product_lt {a = c.from.result} {b = c.from-in-loop-s.result} {m = 2 ^ 16} {n = 2 ^ 16} (omega arith) (omega arith)))

pub returns : goal.returns
unfolding set_of
returns c = let e : c.pair_at-s-end.result ≡ c.loop-s.s = omega arith in rw (← c.pair_at-s-end.ensures.0, e) c.loop-s.invariant.1
