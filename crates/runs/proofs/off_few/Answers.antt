-- `runs::off_few` meets its contract: its loop keeps that the first bytes are counted.
-- Assumes nothing.
use Rattle.std.proofs.Common.{◌≡◌, ◌+◌, length, refl, arith}
use Rattle.basis.specs.Upto.{upto}
use Rattle.runs.specs.Words.{byte_value}
use Rattle.runs.specs.Runs.{offs, marked}
use Rattle.runs.proofs.Done.{offs_low}
use Rattle.runs.proofs.Apart.{marked_more}
use Rattle.runs.proofs.off_few.Goals as goal

pub loop-b-init : goal.loop-b-init
unfolding offs upto
loop-b-init c = refl

pub overflow_add-off : goal.overflow_add-off
overflow_add-off c =
    let m = marked_more c.args.code c.args.bytes.now _ c.loop-b.invariant c.off.ensures c.from-off.ensures in
    omega (arith, m, offs_low (byte_value c.args.code c.args.bytes.now) (c.loop-b.b-index + 1))

pub loop-b-preserved : goal.loop-b-preserved
loop-b-preserved c = marked_more c.args.code c.args.bytes.now _ c.loop-b.invariant c.off.ensures c.from-off.ensures

pub returns : goal.returns
unfolding marked
returns c =
    let e : length c.args.bytes.now ≡ c.loop-b.b-index = omega (arith, c.loop-b.auto.b-index-end, c.loop-b-test.false) in
    rw e c.loop-b.invariant
