-- `body::ends::per_scan` meets its contract.
-- Assumes nothing.
use Rattle.body.specs.Ends.{per_scan}
use mathlib.Core.Path.{sym, ◌∙◌}
use native.Mathlib.Nat.{mul-one}
use Rattle.stream.proofs.Readers.{per_four, per_one}
use Rattle.body.proofs.ends.per_scan.Goals as goal

pub returns-then-w-eq10 : goal.returns-then-w-eq10
unfolding per_scan
returns-then-w-eq10 c =
    let h = c.args.h in
    let e = sym c.group-w.ensures ∙ c.if-w-eq10.true in
    rw (e, per_four h.code e)

pub returns-else-w-eq10 : goal.returns-else-w-eq10
unfolding per_scan
returns-else-w-eq10 c =
    let z = c in
    let g = c.group-w.ensures in
    rw (← g, per_one z.args.h.code z.requires.1 (λ k. c.if-w-eq10.false (g ∙ k)), mul-one)
