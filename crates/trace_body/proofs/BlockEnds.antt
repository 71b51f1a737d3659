-- Each block end keeps a state fit for its header block, and the state before the first byte is fit.
-- Assumes nothing.
use Prim.Native.Nat.{ℕ, ◌+◌, ◌-◌, ◌/◌, ◌≤◌, ◌<◌}
use mathlib.Core.List.{List}
use mathlib.Core.Path.{◌≡◌, refl}
use mathlib.Core.Bool.{Bool, true, false}
use native.Mathlib.Nat.{div-le_self}
use native.Mathlib.Omega.{arith}
use borrow.Author.Tests.{leb-false, ltb-false}
use Rattle.basis.specs.Choice.{pick, ◌or◌}
use Rattle.basis.proofs.Choices.{pick_both}
use Rattle.general.specs.General.{code_of}
use Rattle.turns.specs.Turns.{trace_count, subscans_at}
use Rattle.scan.proofs.Choices.{pick_cases}
use Rattle.trace.specs.declared.Look.{Look}
use Rattle.trace.specs.declared.State.{State}
use Rattle.trace.specs.Fit.{Fit, stopb}
use Rattle.trace.specs.Step.{look_by, look_at}
use Rattle.trace.proofs.Keep.{fit_halted}
use Rattle.trace_body.specs.Ends.{samples_of, scans_by, one_end, tally, ended, end_on}
use Rattle.trace_body.specs.Open.{fresh}

module _ (b : List ℕ) where
  samples_few : (w n : ℕ) → samples_of w n ≤ n
  unfolding samples_of
  samples_few w n = pick_both (λ m. m ≤ n) _ (omega arith) (omega (arith, div-le_self (n - 20) w))

  first_few : (k : Look) (s : State) → k.turn.first ≡ true → scans_by b k s ≤ s.at
  unfolding scans_by pick
  first_few k s e =
      let l = div-le_self (samples_of k.group s.at) (subscans_at b k.turn) in
      let m = samples_few k.group s.at in
      go k.turn.first e (omega arith)
    where
      go : (t : Bool) → t ≡ true → samples_of k.group s.at / subscans_at b k.turn ≤ s.at → pick t (samples_of k.group s.at / subscans_at b k.turn) s.present ≤ s.at
      go t e l = rw e l

  scans_few : (k : Look) (s : State) → Fit b s → scans_by b k s ≤ s.place
  unfolding scans_by
  scans_few k s f =
      pick_both (λ m. m ≤ s.place) _
      (omega (arith, div-le_self (samples_of k.group s.at) (subscans_at b k.turn), samples_few k.group s.at)) f.present

  fit_one : (k : Look) (s : State) → Fit b s → s.ends < trace_count b → 20 ≤ s.at → Fit b (one_end s (scans_by b k s) k.turn.first)
  unfolding one_end
  fit_one k s f l n =
      record {
        ends = omega arith;
        scans = pick_cases (λ m. m + 0 ≤ s.place) k.turn.first (λ e. omega (arith, first_few k s e)) (λ e. omega arith);
        present = scans_few k s f;
        samples = f.samples;
        off = f.off;
        stopat = f.stopat;
        exponents = omega arith;
        stop = f.stop;
        code = f.code;
        demuxed = f.demuxed;
        traces = omega arith;
      }

  fit_tally : (k : Look) (s : State) → Fit b s → s.ends < trace_count b → 20 ≤ s.at → Fit b (tally b k s)
  unfolding tally stopb ◌or◌
  fit_tally k s f l n = pick_both (Fit b) _ (fit_one k s f l n) (fit_halted b s 25 f refl)

  fit_ended : (k : Look) (s : State) → (k.past ≡ false → s.ends < trace_count b) → Fit b s → Fit b (ended b k s)
  unfolding ended stopb ◌or◌
  fit_ended k s p f =
      pick_both (Fit b) _
      (pick_cases (Fit b) _ (λ e. fit_halted b s 15 f refl)
      (λ e. pick_cases (Fit b) _ (λ l. fit_halted b s 15 f refl)
      (λ l. pick_both (Fit b) _ (fit_halted b s 8 f refl) (fit_tally k s f (p e) (ltb-false s.at 20 l)))))
      f

  pub fit_end : (s : State) → Fit b s → Fit b (end_on b s)
  unfolding end_on look_at look_by
  fit_end s f = fit_ended (look_at b s.ends) s (λ e. leb-false (trace_count b) s.ends e) f

  -- ---- the state before the first byte
  pub fit_fresh : 0x8000 ≤ code_of b → Fit b (fresh (code_of b))
  unfolding fresh stopb ◌or◌
  fit_fresh l =
      record {
        ends = omega arith;
        scans = omega arith;
        present = omega arith;
        samples = omega arith;
        off = omega arith;
        stopat = omega arith;
        exponents = omega arith;
        stop = refl;
        code = refl;
        demuxed = l;
        traces = omega arith;
      }
