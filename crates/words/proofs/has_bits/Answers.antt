-- `words::has_bits` meets its contract.
-- Assumes nothing.
use Prim.Native.Nat.{◌<◌, ◌^◌}
use mathlib.Core.Path.{sym}
use borrow.Author.Tests.{lt-ltb}
use Rattle.words.proofs.has_bits.Goals as goal

pub returns-then-w-eq32 : goal.returns-then-w-eq32
returns-then-w-eq32 c =
    let a = c.args in
    let h : a.word < 2 ^ a.w = rw c.if-w-eq32.true c.ranges.word.fits in
    sym (lt-ltb a.word (2 ^ a.w) h)
