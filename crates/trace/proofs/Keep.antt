-- Each byte keeps a state fit for its header block.
-- Assumes nothing.
use Prim.Native.Nat.{ℕ, ◌+◌, ◌≤◌}
use mathlib.Core.List.{List, [], ◌∷◌}
use mathlib.Core.Path.{◌≡◌, refl}
use mathlib.Core.Bool.{true}
use native.Mathlib.Omega.{arith}
use Rattle.basis.specs.Choice.{◌or◌}
use Rattle.basis.proofs.Choices.{pick_both}
use Rattle.words.specs.declared.Value.{Value}
use Rattle.words.specs.Words.{off_one}
use Rattle.turns.specs.declared.Turn.{Turn}
use Rattle.scan.specs.Step.{low}
use Rattle.trace.specs.declared.Look.{Look}
use Rattle.trace.specs.declared.State.{State}
use Rattle.scan.specs.declared.Stepped.{Stepped}
use Rattle.trace.specs.Fit.{Fit, stopb}
use Rattle.trace.specs.Step.{look_at, step, step_on, after, still, halt, halted, moved_by, moved, quiet, headed, sample, plain, grouped, word}

module _ (b : List ℕ) where
  Keeps : Stepped State → Type 0
  Keeps r = Fit b r.state

  fit_still : {s : State} → Fit b s → Keeps (still s)
  unfolding Keeps still
  fit_still f = f

  pub fit_halted : (s : State) (k : ℕ) → Fit b s → stopb k ≡ true → Fit b (halted s k)
  unfolding halted
  fit_halted s k f h =
      record {
        ends = f.ends;
        scans = f.scans;
        present = f.present;
        samples = f.samples;
        off = f.off;
        stopat = omega arith;
        exponents = f.exponents;
        stop = h;
        code = f.code;
        demuxed = f.demuxed;
        traces = f.traces;
      }

  fit_halt : (s : State) (k : ℕ) → Fit b s → stopb k ≡ true → Keeps (halt s k)
  unfolding halt
  fit_halt s k f h = fit_still (fit_halted s k f h)

  fit_moved : (s : State) (m off e x : ℕ) → Fit b s → m ≤ s.place + 1 → off ≤ s.place + 1 → e ≤ 65535 → Fit b (moved s m off e x)
  unfolding moved moved_by
  fit_moved s m off e x f hm ho he =
      record {
        ends = omega arith;
        scans = omega arith;
        present = omega arith;
        samples = hm;
        off = ho;
        stopat = omega arith;
        exponents = he;
        stop = f.stop;
        code = f.code;
        demuxed = f.demuxed;
        traces = f.traces;
      }

  fit_quiet : (s : State) (x : ℕ) → Fit b s → Keeps (quiet s x)
  unfolding quiet
  fit_quiet s x f = fit_still (fit_moved s _ _ _ x f (omega arith) (omega arith) f.exponents)

  fit_headed : (u : Turn) (s : State) (x : ℕ) → Fit b s → Keeps (headed b u s x)
  unfolding headed stopb ◌or◌
  fit_headed u s x f = pick_both Keeps _ (fit_quiet s x f) (fit_halt s 24 f refl)

  fit_sample : (s : State) (v : Value) (x : ℕ) → Fit b s → Keeps (sample s v x)
  unfolding Keeps sample off_one
  fit_sample s v x f = fit_moved s _ _ _ x f (omega arith) (pick_both (λ n. s.off + n ≤ s.place + 1) v.off (omega arith) (omega arith)) f.exponents

  low_two : (h : ℕ) → low h 2 ≤ 65535
  unfolding low
  low_two h = omega arith

  fit_word : (s : State) (w x : ℕ) → Fit b s → Keeps (word s w x)
  unfolding word grouped plain
  fit_word s w x f =
      pick_both Keeps _
      (pick_both Keeps _ (fit_quiet s x f) (pick_both Keeps _ (fit_still (fit_moved s _ _ _ x f (omega arith) (omega arith) (low_two _))) (fit_sample s _ x f)))
      (pick_both Keeps _ (fit_sample s _ x f) (fit_quiet s x f))

  fit_kept : (k : Look) (s : State) (x : ℕ) → Fit b s → Keeps (step b k s x)
  unfolding step stopb ◌or◌
  fit_kept k s x f =
      pick_both Keeps _
      (pick_both Keeps _ (fit_halt s 14 f refl) (pick_both Keeps _ (fit_halt s 15 f refl) (pick_both Keeps _ (fit_headed k.turn s x f) (fit_word s k.group x f))))
      (fit_still f)

  pub fit_step : (s : State) (x : ℕ) → Fit b s → Fit b (step_on b s x).state
  unfolding Keeps step_on
  fit_step s x f = fit_kept (look_at b s.ends) s x f

  pub fit_after : (s : State) (bs : List ℕ) → Fit b s → Fit b (after b s bs)
  unfolding after
  fit_after s [] f = f
  fit_after s (x ∷ bs) f = fit_after (step_on b s x).state bs (fit_step s x f)

  -- no byte changes the number of the trace
  abbrev Held : ℕ → Stepped State → Type 0
  Held n r = r.state.ends ≡ n

  pub ends_step : (s : State) (x : ℕ) → (step_on b s x).state.ends ≡ s.ends
  unfolding step_on step headed word grouped plain quiet sample halt halted still moved moved_by
  ends_step s x =
      let P = Held s.ends in
      pick_both P _
      (pick_both P _ refl (pick_both P _ refl (pick_both P _ (pick_both P _ refl refl) (pick_both P _ (pick_both P _ refl (pick_both P _ refl refl)) (pick_both P _ refl refl)))))
      refl

-- a state of no code fits no header block
pub unfit : (b : List ℕ) (s : State) → s.code ≡ 0 → Fit b s → ⊥
unfit b s e f = omega arith
