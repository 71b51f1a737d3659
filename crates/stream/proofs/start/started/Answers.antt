-- `stream::start::started` meets its contract.
-- Assumes nothing.
use Rattle.std.proofs.Common.{sym, ap, arith}
use Rattle.scan.specs.declared.State.{State}
use Rattle.scan.specs.Step.{moved_by}
use Rattle.stream.specs.Starts.{seventh}
use Rattle.stream.proofs.Starts.{eight}
use Rattle.stream.proofs.start.started.Goals as goal

pub moved-requires : goal.moved-requires
unfolding seventh moved_by
moved-requires c = let e = ap (λ (x : State). x.place) c.seventh-t.ensures in omega (arith, e, c.requires.long)

pub returns : goal.returns
returns c =
    let z = c in
    rw (c.moved.ensures, c.timed.ensures, c.seventh-t.ensures)
    (sym (eight z.args.s z.args.bytes.now z.args.i z.requires (λ j. omega (arith, c.type_inv.bytes j))).state)
