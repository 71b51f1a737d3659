-- `runs::sample15` meets its contract.
-- Assumes nothing.
use mathlib.Core.Path.{◌∙◌}
use Rattle.runs.proofs.Grouped.{group_value}
use Rattle.std.proofs.Common.{◌∙◌}
use Rattle.runs.proofs.sample15.Goals as goal

pub returns : goal.returns
returns c =
    let z = c in
    let v = rw (c.big2.ensures, z.requires.exponents_value) at c.value15-w.ensures in
    let w = v ∙ group_value z.args.bytes.now z.args.g z.args.j z.requires.j_bound in
    record { value = rw (← w) c.put.ensures.value; out_after = rw (← w) c.put.ensures.out_after }
