-- `block::all_pairs` meets its contract.
-- Assumes nothing.
use Rattle.std.proofs.Common.{ℕ, ◌+◌, ◌-◌, ◌∙◌, refl, rules, tests}
use Rattle.std.proofs.lemmas.Iterator.{YieldsList-from_range}
use Rattle.std.proofs.lemmas.Iterator.Search.{all_from_yields_List}
use Rattle.basis.proofs.Uptos.{all_range}
use Rattle.block.specs.Bytes.{is_pair, byte, pairs}
use Rattle.block.proofs.all_pairs.Goals as goal

pub returns : goal.returns
unfolding pairs
returns c =
    let a = c.args in
    let p = λ (i : ℕ). is_pair (byte a.b.now i) in
    all_from_yields_List p _ _ _ c.all.ensures.ran (YieldsList-from_range a.n (a.m + 1) _ (cc) refl) (λ x b q k. search (rules, tests))
    ∙ all_range p a.n (a.m + 1 - a.n)
