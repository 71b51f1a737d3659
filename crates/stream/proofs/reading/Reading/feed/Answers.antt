-- `stream::reading::Reading::feed` meets its contract.
-- Assumes nothing.
use Rattle.std.proofs.Common.{ap, arith}
use Rattle.stream.specs.Calls.{fed}
use Rattle.stream.specs.Bulk.{chunk, chunk_out}
use Rattle.stream.specs.declared.Chunk.{Chunk}
use Rattle.stream.proofs.Parts.{chunk_length}
use Rattle.stream.proofs.Going.{going_quiet, going_wrote, going_chunk, going_end}
use Rattle.stream.proofs.reading.Reading.feed.Goals as goal

pub loop-i-preserved-in-Some : goal.loop-i-preserved-in-Some
loop-i-preserved-in-Some c =
    let a = c in
    let b = a.loop-i in
    let z = a in
    rw c.put.ensures (going_wrote z.args.bytes.now z.args.out.now z.args.self.state b.out b.t b.n b.i c.step-r.result c.in-Some.v b.invariant z.requires c.loop-i-test.true c.step-r.ensures c.in-Some.is)

pub loop-i-preserved-in_default : goal.loop-i-preserved-in_default
loop-i-preserved-in_default c =
    let a = c in
    let b = a.loop-i in
    let z = a in
    going_quiet z.args.bytes.now z.args.out.now z.args.self.state b.out b.t b.n b.i c.step-r.result b.invariant c.loop-i-test.true c.step-r.ensures c.in_default.is

pub overflow_add-n-else-k-eq0 : goal.overflow_add-n-else-k-eq0
overflow_add-n-else-k-eq0 c =
    let a = c in
    let b = a.loop-i in
    let z = a in
    let h = c.ahead_at-k.ensures in
    let r = c.chunk_at-r.ensures.value in
    let l = chunk_length b.t z.args.bytes.now b.i c.ahead_at-k.result c.chunk_at-r.result r in
    omega (arith, l, h.within, b.invariant, z.requires, z.well_formed, c.loop-i-test.true)

pub loop-i-preserved : goal.loop-i-preserved
unfolding chunk chunk_out
loop-i-preserved c =
    let a = c in
    let b = a.loop-i in
    let z = a in
    let h = c.ahead_at-k.ensures in
    let r = c.chunk_at-r.ensures in
    going_chunk z.args.bytes.now z.args.out.now z.args.self.state b.out b.t b.n b.i _ b.invariant z.requires (omega (arith, h.within, c.loop-i-test.true)) _ _ _ (ap (λ (x : Chunk). x.state) r.value) (ap (λ (x : Chunk). x.count) r.value) r.out_after

pub returns : goal.returns
unfolding fed
returns c =
    let a = c in
    let b = a.loop-i in
    let z = a in
    let g = going_end z.args.bytes.now z.args.out.now z.args.self.state b.out b.t b.n b.i b.invariant z.requires c.loop-i-test.false in
    (record { value = rw (c.answered.ensures, g.state, g.count); out_after = g.list })
