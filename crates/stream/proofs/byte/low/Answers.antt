-- `stream::byte::low` meets its contract.
-- Assumes nothing.
use Rattle.std.proofs.Common.{◌≤◌, ◌<◌, ◌^◌, arith, sym}
use native.Mathlib.Nat.{mod-eq_of_lt, lt_of_lt_of_le}
use Rattle.std.proofs.Math.Nat.{pow-le-pow_right}
use Rattle.scan.specs.Step.{low}
use Rattle.stream.proofs.byte.low.Goals as goal

pub returns-in-0 : goal.returns-in-0
unfolding low
returns-in-0 c = rw c.in-0.is (omega arith)

pub returns-in-1 : goal.returns-in-1
unfolding low
returns-in-1 c = rw c.in-1.is

pub returns-in-2 : goal.returns-in-2
unfolding low
returns-in-2 c = rw c.in-2.is

pub returns-in-3 : goal.returns-in-3
unfolding low
returns-in-3 c = rw c.in-3.is

pub returns-in_default : goal.returns-in_default
unfolding low
returns-in_default c =
    let h : 4 ≤ c.args.w = omega arith in
    let l : c.args.held < 256 ^ 4 = omega (arith, c.well_formed) in
    sym (mod-eq_of_lt (lt_of_lt_of_le l (pow-le-pow_right (omega arith) h)))
