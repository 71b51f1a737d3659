-- `trace_body::end_gave` meets its contract.
-- Assumes nothing.
use Rattle.trace.specs.Step.{look_by}
use Rattle.trace.proofs.Facts.{group_some, counted_look}
use Rattle.trace.proofs.Admits.{admitted_is}
use Rattle.trace_body.specs.Ends.{end_on}
use Rattle.trace_body.specs.Calls.{end_gave}
use Rattle.trace_body.proofs.end_gave.Goals as goal

pub ended-t-requires : goal.ended-t-requires
unfolding look_by
ended-t-requires c =
    let a = admitted_is c.args.b.now c.args.s _ c.requires in
    (a.fit, rw c.look_at.ensures.0 (group_some c.args.b.now a.header))

pub returns : goal.returns
unfolding end_gave end_on
returns c =
    let a = admitted_is c.args.b.now c.args.s _ c.requires in
    rw (c.answered.ensures, c.ended-t.ensures, counted_look c.args.b.now c.args.s.ends _ a.traces c.look_at.ensures.0)
