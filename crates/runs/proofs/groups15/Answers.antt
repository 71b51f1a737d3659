-- `runs::groups15` meets its contract: its loop keeps that the first k words are written.
-- Assumes nothing.
use mathlib.Core.Path.{◌∙◌}
use native.Mathlib.Omega.{arith}
use Rattle.runs.specs.Words.{grouped_in, grouped_value}
use Rattle.runs.proofs.Done.{done_from, done_self, done_wrote, counted_low, done_on, loop_ends}
use Rattle.std.proofs.Common.{◌∙◌}
use Rattle.runs.proofs.groups15.Goals as goal

pub loop-k-init : goal.loop-k-init
loop-k-init c = done_self (done_from _ _ _ _ _ (c.min-n.ensures ∙ rw c.grouped_in.ensures) (omega arith) c.whole_groups-off.ensures.value c.whole_groups-off.ensures.out_after)

pub group_exponent-requires : goal.group_exponent-requires
unfolding grouped_in
group_exponent-requires c = omega arith

pub group_word-requires : goal.group_word-requires
unfolding grouped_in
group_word-requires c = omega arith

pub overflow_add-off : goal.overflow_add-off
overflow_add-off c = omega (arith, c.loop-k.invariant.few, counted_low _ c.put-off.ensures.value)

pub loop-k-preserved : goal.loop-k-preserved
unfolding grouped_value
loop-k-preserved c =
    done_wrote c.loop-k.invariant c.loop-k-test.true (c.value15-w.ensures ∙ rw (c.group_word.ensures, c.group_exponent.ensures)) c.put-off.ensures.value c.put-off.ensures.out_after

pub returns : goal.returns
returns c =
    let o = c in
    let z = o in
    let n = rw o.grouped_in.ensures at o.min-n.ensures in
    let p = done_from (grouped_value 0x0015 z.args.bytes.now) _ _ _ _ n (omega arith) o.whole_groups-off.ensures.value o.whole_groups-off.ensures.out_after in
    (let all = loop_ends grouped_in (grouped_value 0x0015) z.args.bytes.now (done_on p c.loop-k.invariant (omega arith)) c.loop-k-test.false in (record { value = all.0; out_after = all.1 }))
