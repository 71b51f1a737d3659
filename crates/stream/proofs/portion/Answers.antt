-- `stream::portion` meets its contract.
-- Assumes nothing.
use Rattle.runs.specs.Runs.{over}
use Rattle.scan.proofs.Shapes.{fit_of}
use Rattle.std.proofs.Common.{◌≡◌, ℕ, Bool, sym, ap, ◌∙◌}
use Rattle.codes.specs.Codes.{group_of}
use Rattle.scan.specs.declared.State.{State}
use Rattle.scan.specs.Fit.{fitb, fit_by}
use Rattle.stream.specs.Calls.{portion, portion_wrote, unchanged}
use Rattle.basis.specs.Choice.{pick}
use Rattle.basis.proofs.Rules.{tests}
use Rattle.stream.proofs.portion.Goals as goal

-- the groups are the code's
tested : (s : State) {w : ℕ} {t : Bool} → t ≡ fit_by s w → w ≡ group_of s.shape.code → fitb s ≡ t
unfolding fitb
tested s p q = sym (p ∙ ap (fit_by s) q)

pub fit_portion-requires : goal.fit_portion-requires
fit_portion-requires c =
    let g = c in
    (fit_of g.args.s (tested g.args.s c.fit_by.ensures g.group-w.ensures ∙ c.if-fit_by.true), sym g.group-w.ensures)

pub returns-then-fit_by : goal.returns-then-fit_by
unfolding portion portion_wrote unchanged over pick
returns-then-fit_by c =
    let f = c in
    search (tests, tested f.args.s f.fit_by.ensures f.group-w.ensures ∙ c.if-fit_by.true, c.fit_portion.ensures)

pub returns-else-fit_by : goal.returns-else-fit_by
unfolding portion portion_wrote unchanged over pick
returns-else-fit_by c = search (tests, tested c.args.s c.fit_by.ensures c.group-w.ensures ∙ c.if-fit_by.false)
