-- What a shape and a state that fit have.
-- Assumes nothing.
use Prim.Native.Nat.{◌-◌, ◌%◌, ◌≤◌, ◌<◌}
use mathlib.Core.Path.{◌≡◌}
use mathlib.Core.Bool.{true}
use borrow.Author.Tests.{leb-true, eqb-true, ltb-true}
use lib.Dec.{leb, eqb, ltb}
use Rattle.basis.proofs.Choices.{and_true, both_true}
use Rattle.basis.proofs.Rules.{tests}
use Rattle.codes.specs.Codes.{group_of}
use Rattle.scan.specs.declared.Shape.{Shape}
use Rattle.scan.specs.declared.State.{State}
use Rattle.scan.specs.Fit.{Fit, fitb, fit_by, countsb, trackb, shapeb, shape_by, wholeb, limitsb, stopb}

pub record Parts (h : Shape) : Type 0 where
  pub scan : 8 ≤ h.scan
  pub group : 0 < group_of h.code
  pub whole : (h.scan - 8) % group_of h.code ≡ 0
  pub code : h.code < 0x8000
  pub advance : h.advance % 256 ≡ 0
  pub some : 1 ≤ h.types
  pub types : h.types ≤ 99

pub shape_parts : (h : Shape) → shapeb h ≡ true → Parts h
unfolding shapeb shape_by wholeb limitsb
shape_parts h e =
    let a = both_true _ _ e in
    let b = both_true _ _ a.1 in
    let c = both_true _ _ b.1 in
    let w = both_true _ _ c.0 in
    let i = and_true _ (leb h.block 8355840) c.1 in
    let j = and_true _ (leb h.types 99) i.0 in
    let k = and_true _ (leb 1 h.types) j.0 in
    let l = and_true _ (leb h.advance 524288) k.0 in
    let m = and_true (ltb h.code 0x8000) (eqb (h.advance % 256) 0) l.0 in
    record {
      scan = leb-true _ _ a.0;
      group = ltb-true _ _ w.0;
      whole = eqb-true _ _ w.1;
      code = ltb-true _ _ m.0;
      advance = eqb-true _ _ m.1;
      some = leb-true _ _ k.1;
      types = leb-true _ _ j.1;
    }

pub fit_of : (s : State) → fitb s ≡ true → Fit s
unfolding fitb fit_by shapeb countsb trackb
fit_of s h =
    let a = and_true _ (shapeb s.shape) h in
    let b = and_true _ (stopb s.stop) a.0 in
    let c = and_true (countsb s) (trackb s.track s.shape.types) b.0 in
    let d = and_true _ (leb s.exponents 65535) c.0 in
    let e = and_true _ (leb s.stopat s.place) d.0 in
    let f = and_true (leb s.ends s.place) (leb s.off s.place) e.0 in
    let g = and_true _ (leb s.track.twi 1) c.1 in
    let k = and_true (leb s.track.seen s.shape.types) (leb s.track.itb 1) g.0 in
    let p = shape_parts s.shape a.1 in
    record {
      ends = leb-true _ _ f.0;
      off = leb-true _ _ f.1;
      seen = leb-true _ _ k.0;
      itb = leb-true _ _ k.1;
      twi = leb-true _ _ g.1;
      exponents = leb-true _ _ d.1;
      stopat = leb-true _ _ e.1;
      stop = b.1;
      shape = a.1;
      scan = p.scan;
      types = p.types;
      some = p.some;
    }

pub of_fit : (s : State) → Fit s → fitb s ≡ true
unfolding fitb fit_by shapeb countsb trackb
of_fit s f = search (tests, f.stop, f.shape)
