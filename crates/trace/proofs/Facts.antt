-- A state that fits a header block, as a test and as facts; and what an accepted header says of its code.
-- Assumes nothing.
use Rattle.std.specs.Prelude.{Ok}
use Prim.Native.Nat.{ℕ, ◌-◌, ◌<◌}
use mathlib.Core.Path.{◌≡◌, ap, ◌∙◌}
use mathlib.Core.Bool.{Bool, true}
use mathlib.Core.List.{List}
use native.Mathlib.Omega.{arith}
use lib.Dec.{leb, eqb}
use borrow.Author.Tests.{leb-true, eqb-true, le-leb, eq-eqb}
use Rattle.basis.specs.Choice.{◌and◌}
use Rattle.basis.proofs.Choices.{and_true, both_true}
use Rattle.codes.specs.Codes.{group_of, per_of, lead_of, word_bytes_of}
use Rattle.codes.proofs.Rows.{Words, alone, fours}
use Rattle.general.specs.General.{code_of}
use Rattle.header.specs.Faults.{header_fault}
use Rattle.header.proofs.Accepted.{sizes}
use Rattle.turns.specs.Turns.{trace_count}
use Rattle.trace.specs.declared.Look.{Look}
use Rattle.trace.specs.declared.State.{State}
use Rattle.trace.specs.Step.{look_by, look_at}
use Rattle.trace.specs.Fit.{Fit, fitb, fit_by, boundsb, restb, own_by, stopb}

pub group_some : (b : List ℕ) → header_fault b ≡ Ok tt → 0 < group_of (code_of b)
group_some b e = go (sizes b e).words
  where
    go : Words (group_of (code_of b)) (per_of (code_of b)) (lead_of (code_of b)) (word_bytes_of (code_of b)) → 0 < group_of (code_of b)
    go (alone g p l w three) = omega (arith, (sizes b e).wide)
    go (fours g p l w) = omega arith

pub fit_of : (b : List ℕ) (s : State) → fitb b s ≡ true → Fit b s
unfolding fitb fit_by boundsb restb own_by
fit_of b s h =
    let a = and_true _ (own_by b s (trace_count b)) h in
    let o = and_true _ (leb s.ends (trace_count b)) a.1 in
    let p = and_true (eqb s.code (code_of b)) (leb 0x8000 s.code) o.0 in
    let c = and_true (boundsb s) (stopb s.stop) a.0 in
    let d = both_true (leb s.at s.place) _ c.0 in
    let e = and_true _ (leb s.exponents 65535) d.1 in
    let f = and_true _ (leb s.stopat s.place) e.0 in
    let g = and_true _ (leb s.off s.place) f.0 in
    let i = and_true _ (leb s.samples s.place) g.0 in
    let j = and_true _ (leb s.present s.place) i.0 in
    let k = and_true (leb s.ends (s.place - s.at)) (leb s.scans (s.place - s.at)) j.0 in
    let m = leb-true s.at s.place d.0 in
    record {
      ends = omega (arith, leb-true s.ends (s.place - s.at) k.0);
      scans = omega (arith, leb-true s.scans (s.place - s.at) k.1);
      present = leb-true _ _ j.1;
      samples = leb-true _ _ i.1;
      off = leb-true _ _ g.1;
      stopat = leb-true _ _ f.1;
      exponents = leb-true _ _ e.1;
      stop = c.1;
      code = eqb-true _ _ p.0;
      demuxed = leb-true _ _ p.1;
      traces = leb-true _ _ o.1;
    }

pub of_fit : (b : List ℕ) (s : State) → Fit b s → fitb b s ≡ true
unfolding fitb fit_by boundsb restb own_by ◌and◌
of_fit b s f =
    rw (
      le-leb s.at s.place (omega arith),
      le-leb s.ends (s.place - s.at) (omega arith),
      le-leb s.scans (s.place - s.at) (omega arith),
      le-leb _ _ f.present,
      le-leb _ _ f.samples,
      le-leb _ _ f.off,
      le-leb _ _ f.stopat,
      le-leb _ _ f.exponents,
      f.stop,
      eq-eqb _ _ f.code,
      le-leb _ _ f.demuxed,
      le-leb _ _ f.traces,
    )

-- the traces are counted once a call, for the test and for the look
pub counted_fit : (b : List ℕ) (s : State) (n : ℕ) {t : Bool} → n ≡ trace_count b → t ≡ fit_by b s n → t ≡ fitb b s
unfolding fitb
counted_fit b s n q e = e ∙ ap (fit_by b s) q

pub counted_look : (b : List ℕ) (i n : ℕ) {k : Look} → n ≡ trace_count b → k ≡ look_by b i n → k ≡ look_at b i
unfolding look_at
counted_look b i n q e = e ∙ ap (look_by b i) q
