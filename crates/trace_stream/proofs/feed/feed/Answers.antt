-- `trace_stream::feed` meets its contract.
-- Assumes nothing.
use Prim.Native.Nat.{◌+◌}
use mathlib.Core.Path.{◌≡◌}
use native.Mathlib.Omega.{arith}
use lib.ListN.{set}
use borrow.Author.Rules.{rules}
use Rattle.trace_stream.specs.Calls.{fed}
use Rattle.trace_stream.proofs.Going.{going_quiet, going_wrote, going_end, by_look, group_look}
use Rattle.trace_stream.proofs.feed.feed.Goals as goal
use Rattle.trace_stream.proofs.feed.feed.Goals.{in-Some, in_default}

pub step-r-requires : goal.step-r-requires
step-r-requires c =
    let g = c.loop-x.invariant in
    (g.fit, group_look c.args.b.now c.args.k c.args.s.ends c.loop-x.t c.requires.fit.1 g.fit, c.requires.fit.2, omega (arith, c.requires.fit.3, g.ends, g.fit))

pub loop-x-preserved : goal.loop-x-preserved
loop-x-preserved c =
    let l = c.loop-x in
    let e = by_look c.args.b.now c.args.k c.args.s l.t _ c.step-r.result c.requires.fit.1 l.invariant.ends c.step-r.ensures in
    elim c.match-r.branch [
      | in-Some w ↦
          let o : c.match-r.out ≡ set (set l.out l.n w.in-Some.v.m) (l.n + 1) w.in-Some.v.x = search rules in
          rw (o, w.n-is) (going_wrote c.args.b.now c.args.bytes.now c.args.out.now c.args.s l.out l.t l.n l.x-index c.step-r.result w.in-Some.v l.invariant c.requires.bytes_in_bounds c.loop-x-test.true e w.in-Some.is)
      | in_default w ↦ rw (w.out-is, w.n-is) (going_quiet c.args.b.now c.args.bytes.now c.args.out.now c.args.s l.out l.t l.n l.x-index c.step-r.result l.invariant c.loop-x-test.true e w.in_default.is)
    ]

pub returns : goal.returns
unfolding fed
returns c =
    let l = c.loop-x in
    let g = going_end c.args.b.now c.args.bytes.now c.args.out.now c.args.s l.out l.t l.n l.x-index l.invariant c.requires.bytes_in_bounds c.loop-x-test.false in
    record { value = rw (c.answered.ensures, g.state, g.count); out_after = g.list }
