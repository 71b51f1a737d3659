-- A block end that is due, and that the state after any block end is fit.
-- Assumes nothing.
use Prim.Native.Nat.{ℕ, ◌+◌, ◌/◌, ◌%◌, ◌≤◌, ◌<◌}
use mathlib.Core.Path.{◌≡◌, refl}
use mathlib.Core.Bool.{true}
use native.Mathlib.Nat.{div-le_self}
use native.Mathlib.Omega.{arith}
use borrow.Author.Tests.{eqb-true, ltb-true}
use Rattle.basis.specs.Choice.{◌and◌, ◌or◌}
use Rattle.basis.proofs.Choices.{both_true, pick_both}
use Rattle.scan.specs.declared.State.{State}
use Rattle.scan.specs.Fit.{Fit, fitb, stopb}
use Rattle.scan.specs.Step.{halted}
use Rattle.scan.proofs.Choices.{pick_true, pick_cases}
use Rattle.scan.proofs.Shapes.{fit_of, of_fit}
use Rattle.scan.proofs.Keep.{fit_halted}
use Rattle.stream.specs.declared.Gave.{Gave}
use Rattle.stream.specs.Calls.{unchanged}
use Rattle.body.specs.Ends.{due, one_end, ended, block_end}

-- it comes after a scan more than there were ends
pub due_ends : (block scans part ends : ℕ) → due block scans part ends ≡ true → ends + 1 ≤ scans
unfolding due
due_ends block scans part ends h =
    pick_true _ _ _ (both_true _ _ h).1
    (λ a. let p = both_true _ _ a in let e : ends ≡ 0 = eqb-true _ _ p.0 in let l : 0 < scans = ltb-true _ _ p.1 in omega arith)
    (λ b. let e : scans / block ≡ ends + 1 = eqb-true _ _ (both_true _ _ b).1 in omega (arith, div-le_self scans block))

pub fit_end : (s : State) → Fit s → due s.shape.block (s.place / s.shape.scan) (s.place % s.shape.scan) s.ends ≡ true → Fit (one_end s)
unfolding one_end
fit_end s f h =
    record {
      ends = omega (arith, due_ends _ _ _ _ h, div-le_self s.place s.shape.scan);
      off = f.off;
      seen = f.seen;
      itb = f.itb;
      twi = f.twi;
      exponents = f.exponents;
      stopat = f.stopat;
      stop = f.stop;
      shape = f.shape;
      scan = f.scan;
      types = f.types;
      some = f.some;
    }

-- what a block end gives back of a fit state is fit, whatever it answers
pub end_fit : (s : State) → fitb s ≡ true → fitb (block_end s).state ≡ true
unfolding block_end ended unchanged stopb ◌or◌ ◌and◌
end_fit s f =
    let P : Gave State → Type 0 = λ g. fitb g.state ≡ true in
    pick_both P _ (pick_both P _ (pick_cases P _ (λ e. of_fit (one_end s) (fit_end s (fit_of s f) e)) (λ e. of_fit (halted s 15) (fit_halted s 15 (fit_of s f) refl))) f) f
