-- Each byte keeps a state fit, and what the header said.
-- Assumes nothing.
use Prim.Native.Nat.{ℕ, ◌+◌, ◌≤◌}
use mathlib.Core.List.{List, [], ◌∷◌}
use mathlib.Core.Path.{◌≡◌, refl, ◌∙◌}
use mathlib.Core.Bool.{Bool, true, false}
use native.Mathlib.Omega.{arith}
use borrow.Author.Tests.{leb-true}
use lib.Dec.{leb, eqb}
use Rattle.basis.specs.Choice.{pick, ◌and◌, ◌or◌}
use Rattle.basis.specs.Fields.{field}
use Rattle.basis.proofs.Choices.{pick_both}
use Rattle.words.specs.declared.Value.{Value}
use Rattle.words.specs.Words.{off_one}
use Rattle.scan.specs.declared.Shape.{Shape}
use Rattle.scan.specs.declared.Track.{Track}
use Rattle.scan.specs.declared.State.{State}
use Rattle.scan.specs.declared.Stepped.{Stepped}
use Rattle.scan.specs.Fit.{Fit, stopb}
use Rattle.scan.specs.Step.{step, after, still, halt, halted, moved, moved_by, quiet, sync, start, typed, seen, phased, phase, timed, time, low, sample, plain, grouped, word}
use Rattle.scan.proofs.Choices.{pick_cases}

-- the steps
Keeps : Stepped State → Type 0
Keeps r = Fit r.state

fit_still : {s : State} → Fit s → Keeps (still s)
unfolding Keeps still
fit_still f = f

pub fit_halted : (s : State) (k : ℕ) → Fit s → stopb k ≡ true → Fit (halted s k)
unfolding halted
fit_halted s k f h =
    record {
      ends = f.ends;
      off = f.off;
      seen = f.seen;
      itb = f.itb;
      twi = f.twi;
      exponents = f.exponents;
      stopat = omega arith;
      stop = h;
      shape = f.shape;
      scan = f.scan;
      types = f.types;
      some = f.some;
    }

fit_halt : (s : State) (k : ℕ) → Fit s → stopb k ≡ true → Keeps (halt s k)
unfolding halt
fit_halt s k f h = fit_still (fit_halted s k f h)

fit_moved : (s : State) (k : Track) (e off b : ℕ) → Fit s → k.seen ≤ s.shape.types → k.itb ≤ 1 → k.twi ≤ 1 → e ≤ 65535 → off ≤ s.place + 1 → Fit (moved s k e off b)
unfolding moved moved_by
fit_moved s k e off b f ks ki kt he ho =
    record {
      ends = omega arith;
      off = ho;
      seen = ks;
      itb = ki;
      twi = kt;
      exponents = he;
      stopat = omega arith;
      stop = f.stop;
      shape = f.shape;
      scan = f.scan;
      types = f.types;
      some = f.some;
    }

fit_quiet : (s : State) (b : ℕ) → Fit s → Keeps (quiet s b)
unfolding quiet
fit_quiet s b f = fit_still (fit_moved s _ _ _ b f f.seen f.itb f.twi f.exponents (omega arith))

fit_sync : (s : State) (b : ℕ) → Fit s → Keeps (sync s b)
unfolding sync stopb ◌or◌ ◌and◌
fit_sync s b f = pick_both Keeps _ (fit_quiet s b f) (fit_halt s 16 f refl)

fit_start : (s : State) (b : ℕ) → Fit s → Keeps (start s b)
unfolding start stopb ◌or◌ ◌and◌
fit_start s b f = pick_both Keeps _ (fit_halt s 15 f refl) (fit_sync s b f)

seen_low : (types x : ℕ) (t q : Bool) → 1 ≤ types → pick t q (leb (pick t 1 x) types) ≡ true → pick t 1 x ≤ types
unfolding pick
seen_low types x true q l e = l
seen_low types x false q l e = leb-true _ _ e

phased_seen : (k : Track) (types b : ℕ) → 1 ≤ types → phased k types b ≡ true → (typed k b).seen ≤ types
unfolding phased typed seen
phased_seen k types b l e = seen_low types _ (eqb k.seen 0) _ l e

typed_itb : (k : Track) (b : ℕ) → k.itb ≤ 1 → (typed k b).itb ≤ 1
unfolding typed field
typed_itb k b h = pick_both (λ n. n ≤ 1) _ (omega arith) h

typed_twi : (k : Track) (b : ℕ) → k.twi ≤ 1 → (typed k b).twi ≤ 1
unfolding typed
typed_twi k b h = h

fit_phase : (s : State) (b : ℕ) → Fit s → Keeps (phase s b)
unfolding phase stopb ◌or◌ ◌and◌
fit_phase s b f =
    pick_both Keeps _
    (pick_cases Keeps _ (λ e. fit_still (fit_moved s (typed s.track b) _ _ b f (phased_seen s.track _ b f.some e) (typed_itb s.track b f.itb) (typed_twi s.track b f.twi) f.exponents (omega arith)))
    (λ e. fit_halt s 18 f refl))
    (fit_halt s 16 f refl)

timed_twi : (k : Track) (held b : ℕ) → k.twi ≤ 1 → (timed k held b).twi ≤ 1
unfolding timed
timed_twi k held b h = pick_both (λ n. n ≤ 1) _ (omega arith) h

timed_seen : (k : Track) (held b n : ℕ) → k.seen ≤ n → (timed k held b).seen ≤ n
unfolding timed
timed_seen k held b n h = h

timed_itb : (k : Track) (held b n : ℕ) → k.itb ≤ n → (timed k held b).itb ≤ n
unfolding timed
timed_itb k held b n h = h

fit_time : (s : State) (b : ℕ) → Fit s → Keeps (time s b)
unfolding time stopb ◌or◌ ◌and◌
fit_time s b f =
    pick_both Keeps _
    (fit_still (fit_moved s (timed s.track s.held b) _ _ b f (timed_seen s.track s.held b _ f.seen) (timed_itb s.track s.held b _ f.itb) (timed_twi s.track s.held b f.twi) f.exponents (omega arith)))
    (fit_halt s 17 f refl)

fit_sample : (s : State) (w : Value) (b : ℕ) → Fit s → Keeps (sample s w b)
unfolding Keeps sample off_one
fit_sample s w b f = fit_moved s _ _ _ b f f.seen f.itb f.twi f.exponents (pick_both (λ n. s.off + n ≤ s.place + 1) w.off (omega arith) (omega arith))

fit_plain : (s : State) (b w q : ℕ) → Fit s → Keeps (plain s b w q)
unfolding plain
fit_plain s b w q f = pick_both Keeps _ (fit_sample s _ b f) (fit_quiet s b f)

low_two : (h : ℕ) → low h 2 ≤ 65535
unfolding low
low_two h = omega arith

fit_grouped : (s : State) (b g : ℕ) → Fit s → Keeps (grouped s b g)
unfolding grouped
fit_grouped s b g f =
    pick_both Keeps _ (fit_quiet s b f) (pick_both Keeps _ (fit_still (fit_moved s _ _ _ b f f.seen f.itb f.twi (low_two _) (omega arith))) (fit_sample s _ b f))

fit_word : (s : State) (b q : ℕ) → Fit s → Keeps (word s b q)
unfolding word
fit_word s b q f = pick_both Keeps _ (fit_grouped s b _ f) (fit_plain s b _ q f)

fit_kept : (s : State) (b : ℕ) → Fit s → Keeps (step s b)
unfolding step stopb ◌or◌ ◌and◌
fit_kept s b f =
    pick_both Keeps _ (pick_both Keeps _ (fit_halt s 14 f refl) (pick_both Keeps _ (fit_start s b f) (pick_both Keeps _ (fit_sync s b f) (pick_both Keeps _ (fit_phase s b f) (pick_both Keeps _ (fit_quiet s b f) (pick_both Keeps _ (fit_time s b f) (fit_word s b _ f))))))) (fit_still f)

pub fit_step : (s : State) (b : ℕ) → Fit s → Fit (step s b).state
unfolding Keeps
fit_step s b f = fit_kept s b f

pub fit_after : (s : State) (bs : List ℕ) → Fit s → Fit (after s bs)
unfolding after
fit_after s [] f = f
fit_after s (b ∷ bs) f = fit_after (step s b).state bs (fit_step s b f)

-- no byte changes what the header said
abbrev Shaped : Shape → Stepped State → Type 0
Shaped h r = r.state.shape ≡ h

shape_quiet : (s : State) (b : ℕ) → Shaped s.shape (quiet s b)
unfolding quiet still moved moved_by
shape_quiet s b = refl

shape_halt : (s : State) (k : ℕ) → Shaped s.shape (halt s k)
unfolding halt halted still
shape_halt s k = refl

shape_sync : (s : State) (b : ℕ) → Shaped s.shape (sync s b)
unfolding sync
shape_sync s b = pick_both (Shaped s.shape) _ (shape_quiet s b) (shape_halt s 16)

shape_move : (s : State) (k : Track) (e off b : ℕ) → Shaped s.shape (still (moved s k e off b))
unfolding still moved moved_by
shape_move s k e off b = refl

shape_sample : (s : State) (w : Value) (b : ℕ) → Shaped s.shape (sample s w b)
unfolding sample moved moved_by
shape_sample s w b = refl

shape_word : (s : State) (b q : ℕ) → Shaped s.shape (word s b q)
unfolding word grouped plain
shape_word s b q =
    let P = Shaped s.shape in
    pick_both P _ (pick_both P _ (shape_quiet s b) (pick_both P _ (shape_move s _ _ _ b) (shape_sample s _ b))) (pick_both P _ (shape_sample s _ b) (shape_quiet s b))

shape_still : (s : State) → Shaped s.shape (still s)
unfolding still
shape_still s = refl

pub shape_step : (s : State) (b : ℕ) → (step s b).state.shape ≡ s.shape
unfolding step start phase time
shape_step s b =
    let P = Shaped s.shape in
    pick_both P _ (pick_both P _ (shape_halt s 14) (pick_both P _ (pick_both P _ (shape_halt s 15) (shape_sync s b)) (pick_both P _ (shape_sync s b) (pick_both P _ (pick_both P _ (pick_both P _ (shape_move s _ _ _ b) (shape_halt s 18)) (shape_halt s 16)) (pick_both P _ (shape_quiet s b) (pick_both P _ (pick_both P _ (shape_move s _ _ _ b) (shape_halt s 17)) (shape_word s b _))))))) (shape_still s)

pub shape_after : (s : State) (bs : List ℕ) → (after s bs).shape ≡ s.shape
unfolding after
shape_after s [] = refl
shape_after s (b ∷ bs) = shape_after (step s b).state bs ∙ shape_step s b
