-- `turns::skew_at` meets its contract.
-- Assumes nothing.
use Prim.Native.Nat.{ℕ}
use mathlib.Core.Path.{sym, ap, ◌∙◌}
use lib.ListN.{get_or}
use borrow.Author.Rules.{rules}
use borrow.Author.Tests.{eq-eqb, ne_eqb}
use Rattle.turns.proofs.Holders.{recorded, unrecorded, placed}
use Rattle.turns.proofs.skew_at.Goals as goal

pub returns-then-pair_at-eq0 : goal.returns-then-pair_at-eq0
returns-then-pair_at-eq0 c = unrecorded c.args.b.now c.args.u (eq-eqb _ _ (sym c.pair_at.ensures.0 ∙ c.if-pair_at-eq0.true))

pub returns : goal.returns
returns c =
    let a = c.args in
    let e = recorded a.b.now a.u (ne_eqb _ _ (λ z. c.if-pair_at-eq0.false (c.pair_at.ensures.0 ∙ z))) in
    (search rules) ∙ ap (λ (v : ℕ). get_or a.b.now v 0) (placed a.b.now a.u c.fields_before.ensures.0 (c.from.ensures ∙ c.pair_at-2.ensures.0) c.samples_before.ensures.0) ∙ sym e
