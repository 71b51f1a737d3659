-- `runs::whole_groups` meets its contract: its loops keep that the words of the first g groups are written, and j of the next.
-- Assumes nothing.
use Prim.Native.Nat.{ℕ, ◌+◌, ◌*◌, ◌/◌, ◌≤◌}
use mathlib.Core.Path.{◌≡◌, ◌∙◌, refl}
use mathlib.Core.List.{List}
use native.Mathlib.Nat.{add-zero}
use native.Mathlib.Omega.{arith}
use lib.IntN.{ℤ}
use Rattle.words.specs.declared.Value.{Value}
use Rattle.runs.specs.Runs.{offs, numbers, over}
use Rattle.runs.specs.Words.{grouped_in}
use Rattle.runs.proofs.Done.{Done, done_none, counted_low, done_put, done_far}
use Rattle.runs.proofs.whole_groups.Goals as goal

pub loop-g-init : goal.loop-g-init
loop-g-init c = done_none _ _ _ _ c.requires

pub big2-requires : goal.big2-requires
unfolding grouped_in
big2-requires c = omega arith

pub loop-j-init : goal.loop-j-init
loop-j-init c = rw (add-zero (4 * c.loop-g.g)) c.loop-g.invariant

pub sample15-off-requires : goal.sample15-off-requires
unfolding grouped_in
sample15-off-requires c = record { j_bound = omega arith; g_in_bounds = omega arith; j_in_bounds = omega arith; exponents_value = c.from-exponents.ensures ∙ c.big2.ensures }

pub overflow_add-off : goal.overflow_add-off
overflow_add-off c = omega (arith, counted_low _ c.sample15-off.ensures.value)

pub loop-j-preserved : goal.loop-j-preserved
loop-j-preserved c = done_put c.loop-j.invariant (c.sample15-off.ensures.value, c.sample15-off.ensures.out_after) refl (omega arith) (omega arith)

pub loop-g-preserved : goal.loop-g-preserved
loop-g-preserved c =
    let e : 4 * (c.loop-g.g + 1) ≡ 4 * c.loop-g.g + c.loop-j.j = omega (arith, c.loop-j.auto.j-end) in
    rw e c.loop-j.invariant

-- no whole group is left
ends : {f : ℕ → Value} {a n : ℕ} {out₀ out : List ℤ} {off g : ℕ} → Done f a n out₀ out off (4 * g) → n / 4 ≤ g → (off ≡ offs f (n / 4 * 4)) × (out ≡ over (numbers f (n / 4 * 4)) out₀)
ends {n = n} {g = g} d h =
    let e : n / 4 * 4 ≡ 4 * g = omega (arith, d.within) in
    rw e (done_far d)

pub returns : goal.returns
returns c = (let all = ends c.loop-g.invariant c.loop-g-test.false in (record { value = all.0; out_after = all.1 }))
