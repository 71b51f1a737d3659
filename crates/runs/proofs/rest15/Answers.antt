-- `runs::rest15` meets its contract: its loop keeps that the first k words are written. That the word which is read is word k is found by search.
-- Assumes nothing.
use Prim.Native.Nat.{◌+◌, ◌%◌}
use mathlib.Core.Path.{◌≡◌, ◌∙◌}
use native.Mathlib.Omega.{arith}
use Rattle.basis.specs.Fields.{field}
use Rattle.runs.specs.Words.{words_in, exponent_of, rest_value}
use Rattle.runs.proofs.Done.{done_none, done_wrote, took, counted_low, loop_ends}
use Rattle.runs.proofs.Bytes.{written_two}
use Rattle.runs.proofs.Chunks.{chunk_at, chunk_first, two_value}
use Rattle.std.proofs.lemmas.Grind.{common_steps}
use Rattle.std.proofs.Common.{◌+◌, ◌∙◌}
use Rattle.std.proofs.Common.{refl}
use Rattle.runs.proofs.rest15.Goals as goal

pub loop-k-init : goal.loop-k-init
unfolding words_in
loop-k-init c = done_none _ _ _ _ (rw (← c.as_chunks.ensures.front_len) c.min-n.ensures)

pub overflow_add-off : goal.overflow_add-off
overflow_add-off c = omega (arith, c.loop-k.invariant.few, counted_low _ c.put-off.ensures.value)

pub loop-k-preserved : goal.loop-k-preserved
unfolding words_in rest_value exponent_of field
loop-k-preserved c =
    let i = c.loop-k.invariant in
    let turn : (c.args.j % 4 + c.loop-k.k) % 4 ≡ (c.args.j + c.loop-k.k) % 4 = omega arith in
    let h = rw (took _ c.as_chunks.result.0.now c.min-n.ensures) at c.loop-k-test.true in
    let n = two_value 0x0015 _ c.loop-k.k c.args.bytes.now c.value15-w.ensures (grind (arith, common_steps, chunk_at, chunk_first, written_two, h, i.there)) in
    done_wrote i h (n ∙ rw turn refl) c.put-off.ensures.value c.put-off.ensures.out_after

pub returns : goal.returns
returns c =
    let z = c in
    (let all = loop_ends (words_in 2) (rest_value 0x0015 z.args.exponents z.args.j) z.args.bytes.now c.loop-k.invariant (rw (took _ c.as_chunks.result.0.now c.min-n.ensures) at c.loop-k-test.false) in (record { value = all.0; out_after = all.1 }))
