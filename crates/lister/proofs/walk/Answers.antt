-- `lister::walk` meets its contract: what is left of the portion leads to its end.
-- Assumes nothing.
use Rattle.std.proofs.Common.{[], refl, arith, rules, ◌∙◌}
use native.Mathlib.Nat.{sub-zero}
use Rattle.framing.proofs.Forward.{forward}
use Rattle.lister.specs.Turn.{walked}
use Rattle.lister.proofs.Room.{roomy_is, none_yet}
use Rattle.lister.proofs.Walking.{on, ended}
use Rattle.lister.proofs.walk.Goals as goal

pub loop-at-init : goal.loop-at-init
unfolding walked
loop-at-init c = record {
  within = search rules;
  same_header = refl;
  same_numbers = refl;
  same_lines = refl;
  here = record { out = []; left = rw sub-zero; few = none_yet _ _ _; front = refl; place = refl };
}

pub loop-at-smaller : goal.loop-at-smaller
loop-at-smaller c =
    let l = c.loop-at in
    let w = forward l.run.progress.frame c.args.bytes.now l.at (search rules) in
    omega (arith, c.advance-at.ensures.to, w.grows, w.stays)

pub loop-at-preserved : goal.loop-at-preserved
loop-at-preserved c =
    let l = c.loop-at in
    let a = c.advance-at.ensures in
    let w = forward l.run.progress.frame c.args.bytes.now l.at (search rules) in
    record {
      within = omega (arith, a.to, w.stays);
      same_header = a.run.same_header ∙ l.invariant.same_header;
      same_numbers = a.run.same_numbers ∙ l.invariant.same_numbers;
      same_lines = a.run.same_lines ∙ l.invariant.same_lines;
      here = on _ c.args.bytes.now _ l.run l.at l.invariant.here c.args.header.now c.args.numbers.now (roomy_is _ _ _ _ c.requires) (search rules) a.to a.run;
    }

pub returns : goal.returns
returns c =
    let l = c.loop-at in
    let i = l.invariant in
    let e = ended _ c.args.bytes.now _ l.run l.at i.here (search rules) in
    (e.0, search (rules, e.1, i.same_header), search (rules, e.2, i.same_numbers), search (rules, e.3, i.same_lines))
