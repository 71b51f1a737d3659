-- `stream::reading::Reading::ahead_at` meets its contract.
-- Assumes nothing.
use Rattle.std.proofs.Common.{refl, arith}
use Rattle.stream.proofs.reading.Reading.ahead_at.Goals as goal

pub returns-then-starts : goal.returns-then-starts
returns-then-starts c =
    let a = c.starts.ensures c.if-starts.true in
    record { within = omega (arith, a.whole); takes = λ h. record { start = λ e. (refl, a); words = λ n. absurd (n a.first) } }

pub returns : goal.returns
returns c =
    let h = c.ahead.ensures in
    record { within = h.within; takes = λ p. let a = h.able p in record { start = λ e. absurd (omega (arith, e, a.low)); words = λ n. a } }
