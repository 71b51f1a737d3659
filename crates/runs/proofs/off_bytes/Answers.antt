-- `runs::off_bytes` meets its contract: its loop keeps that what is counted and what is left make the whole.
-- Assumes nothing.
use Rattle.std.proofs.Common.{◌≡◌, ◌+◌, rules, ◌∙◌, arith}
use Rattle.std.specs.Slice.Iter.{chunks_rest}
use Rattle.runs.specs.Runs.{marked}
use Rattle.runs.proofs.Apart.{marked_low, marked_on, marked_none}
use Rattle.runs.proofs.off_bytes.Goals as goal

pub off_few-requires : goal.off_few-requires
off_few-requires c =
    let s = c.in-Some.ensures.steps in
    omega (arith, s.1.1, c.loop-few.invariant.2)

more : (c : goal.After-from-off) → c.loop-few.off + c.from-off.result + marked c.args.code (chunks_rest c.next.new.self) ≡ marked c.args.code c.args.bytes.now
more c = marked_on c.args.code c.loop-few.off _ _ (chunks_rest c.next.new.self) c.loop-few.invariant.3 c.in-Some.ensures.steps.1.0 (c.from-off.ensures ∙ c.off_few.ensures)

pub overflow_add-off : goal.overflow_add-off
overflow_add-off c = omega (arith, more c, marked_low c.args.code c.args.bytes.now)

pub loop-few-preserved : goal.loop-few-preserved
loop-few-preserved c = (search rules, tt, c.in-Some.ensures.steps.0 ∙ c.loop-few.invariant.2, more c)

pub returns : goal.returns
returns c = marked_none c.args.code _ c.loop-few.invariant.3 c.in-None.ensures.steps.1.0
