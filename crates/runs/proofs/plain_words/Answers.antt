-- `runs::plain_words` meets its contract: its loop keeps that the first k words are written. How many words there are, that the word which is read is word k, and that the clause's code is P's, is found by search.
-- Assumes nothing.
use Rattle.std.proofs.Common.{arith}
use Rattle.basis.specs.Choice.{pick}
use Rattle.runs.specs.Words.{words_in, plain_value}
use Rattle.runs.proofs.Chunks.{chunk_at, chunk_first, word_value}
use Rattle.std.proofs.lemmas.Grind.{common_steps}
use Rattle.runs.proofs.Done.{done_none, done_wrote, took_there, counted_low, loop_ends, said_ran, said_filled}
use Rattle.runs.proofs.plain_words.Goals as goal

pub as_chunks-requires : goal.as_chunks-requires
as_chunks-requires g c = let s = g.met.P.Plain.short in (omega (arith, s.1), s.0)

pub loop-k-init : goal.loop-k-init
unfolding words_in
loop-k-init g c = done_none _ _ _ _ (grind arith)

pub overflow_add-off : goal.overflow_add-off
overflow_add-off g c = omega (arith, c.loop-k.invariant.few, counted_low _ c.put-off.ensures.value)

pub loop-k-preserved : goal.loop-k-preserved
unfolding words_in plain_value
loop-k-preserved g c =
    let i = c.loop-k.invariant in
    let h = rw (took_there c.as_chunks.result.0.now c.as_chunks.ensures.front_len i.there) at c.loop-k-test.true in
    done_wrote i h (word_value g.P.Plain.CODE _ c.loop-k.k c.args.bytes.now c.value.ensures (grind (arith, common_steps, chunk_at, chunk_first, h, i.there))) c.put-off.ensures.value c.put-off.ensures.out_after

pub returns-clause-value : goal.returns-clause-value
unfolding pick words_in
returns-clause-value g c = said_ran _ _ _ (loop_ends _ _ _ c.loop-k.invariant (rw (took_there c.as_chunks.result.0.now c.as_chunks.ensures.front_len c.loop-k.invariant.there) at c.loop-k-test.false)).0 (grind (arith, common_steps))

pub returns-clause-out_after : goal.returns-clause-out_after
unfolding pick words_in
returns-clause-out_after g c = said_filled _ _ _ (loop_ends _ _ _ c.loop-k.invariant (rw (took_there c.as_chunks.result.0.now c.as_chunks.ensures.front_len c.loop-k.invariant.there) at c.loop-k-test.false)).1 (grind (arith, common_steps))
