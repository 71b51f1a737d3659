-- `trace_stream::portion` meets its contract.
-- Assumes nothing.
use mathlib.Core.Path.{sym, ◌∙◌}
use Rattle.runs.specs.Runs.{over}
use Rattle.trace.proofs.Admits.{by_admitted}
use Rattle.trace_stream.specs.Calls.{portion, portion_wrote}
use Rattle.trace_stream.proofs.Calls.{wrote_admitted}
use Rattle.trace_stream.proofs.portion.Goals as goal

pub returns-in-Err : goal.returns-in-Err
unfolding portion portion_wrote over
returns-in-Err c =
    let e = sym c.admit.ensures ∙ c.in-Err.is in
    record { value = rw (by_admitted c.args.block.now c.args.s _ e) c.unchanged.ensures; out_after = rw (wrote_admitted c.args.block.now c.args.s _ e) }

pub returns-in-Ok : goal.returns-in-Ok
unfolding portion portion_wrote
returns-in-Ok c =
    let e = sym c.admit.ensures ∙ c.in-Ok.is in
    record {
      value = rw (by_admitted c.args.block.now c.args.s _ e) c.fit_portion.ensures.value;
      out_after = rw (wrote_admitted c.args.block.now c.args.s _ e) c.fit_portion.ensures.out_after;
    }
