-- `trace_stream::fit_portion` meets its contract.
-- Assumes nothing.
use Rattle.trace.proofs.Facts.{counted_look}
use Rattle.trace.proofs.Admits.{admitted_is}
use Rattle.runs.specs.Runs.{over}
use Rattle.basis.specs.Choice.{pick}
use borrow.Author.Tests.{eq-eqb, ne_eqb}
use Rattle.stream.proofs.Cuts.{room_short, room_enough}
use Rattle.trace_stream.specs.Calls.{fit_portion, fit_wrote}
use Rattle.trace_stream.proofs.Going.{look_some}
use native.Mathlib.Omega.{arith}
use Rattle.trace_stream.proofs.feed.fit_portion.Goals as goal

pub returns-then-s-ne0 : goal.returns-then-s-ne0
unfolding fit_portion fit_wrote over pick
returns-then-s-ne0 c = (record { value = rw (c.answered.ensures, ne_eqb _ _ c.if-s-ne0.true); out_after = rw (ne_eqb _ _ c.if-s-ne0.true) })

pub returns-then-out-bytes : goal.returns-then-out-bytes
unfolding fit_portion fit_wrote over pick
returns-then-out-bytes c = (record { value = rw (eq-eqb _ _ c.if-s-ne0.false, room_short _ _ c.if-out-bytes.true) c.unchanged.ensures; out_after = rw (eq-eqb _ _ c.if-s-ne0.false, room_short _ _ c.if-out-bytes.true) })

pub feed-requires : goal.feed-requires
feed-requires c =
    let a = admitted_is c.args.b.now c.args.s _ c.requires in
    let k = counted_look c.args.b.now c.args.s.ends _ a.traces c.look_at.ensures.0 in
    record { fit = (a.fit, k, look_some c.args.b.now c.look_at.result _ k a.header, c.look_at.ensures.1); bytes_in_bounds = omega (arith, c.if-out-bytes.false) }

pub returns : goal.returns
unfolding fit_portion fit_wrote pick
returns c = (record { value = rw (eq-eqb _ _ c.if-s-ne0.false, room_enough _ _ c.if-out-bytes.false) c.feed.ensures.value; out_after = rw (eq-eqb _ _ c.if-s-ne0.false, room_enough _ _ c.if-out-bytes.false) c.feed.ensures.out_after })
