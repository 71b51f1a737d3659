-- `runs::off_bytes` meets its contract: its loop keeps that what is counted and what is left make the whole.
-- Assumes nothing.
use Rattle.std.proofs.Common.{◌≡◌, ◌+◌}
use Rattle.std.specs.Slice.Iter.{chunks_rest, chunks_size}
use Rattle.runs.specs.Runs.{marked}
use Rattle.runs.proofs.off_bytes.Given as goal

abbrev pub invariant-loop-few : goal.invariant-loop-few
invariant-loop-few l =
    (goal.iterator-loop-few).can_next l.few-iterator
    × (goal.iterator-loop-few).is_finite l.few-iterator
    × (chunks_size l.few-iterator ≡ 224)
    × (l.off + marked l.code (chunks_rest l.few-iterator) ≡ marked l.code l.bytes)
