-- `runs::byte_words` meets its contract: its loop keeps that the first k words are written.
-- Assumes nothing.
use native.Mathlib.Nat.{div-one}
use native.Mathlib.Omega.{arith}
use Rattle.runs.specs.Words.{words_in, tabled_at}
use Rattle.runs.specs.Runs.{samples_in, ran, filled}
use Rattle.runs.proofs.Done.{done_zero, done_next, done_all, took}
use Rattle.runs.proofs.Apart.{marked_first}
use Rattle.std.proofs.Common.{ap, ◌∙◌}
use Rattle.std.proofs.lemmas.List.{get_or-take}
use Rattle.words.specs.Tables.{tabled}
use Rattle.runs.proofs.byte_words.Goals as goal

pub loop-k-init : goal.loop-k-init
loop-k-init c = done_zero _ _ _ _ c.min-n.ensures

pub loop-k-preserved : goal.loop-k-preserved
unfolding tabled_at
loop-k-preserved c =
    let h = rw (took _ c.args.bytes.now c.min-n.ensures) at c.loop-k-test.true in
    rw c.put.ensures.out_after (done_next c.loop-k.invariant h (c.value.ensures ∙ ap (tabled c.args.table.now c.args.code) (get_or-take _ c.args.bytes.now c.loop-k.k 0 h)))

pub returns : goal.returns
unfolding ran filled samples_in words_in
returns c =
    let e = c.min-n.ensures in
    let a = done_all c.loop-k.invariant (rw (took _ c.args.bytes.now e) at c.loop-k-test.false) in
    (record { value = rw (div-one _, ← e, c.off_bytes-off.ensures, marked_first c.args.table.now c.args.code c.args.bytes.now c.min-n.result (omega (arith, c.loop-k.invariant.there))); out_after = rw (div-one _, ← e) a.1 })
