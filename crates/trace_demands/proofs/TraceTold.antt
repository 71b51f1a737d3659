-- The stops of a trace body are told by their rows; and an opening that is refused gives a state that no block fits.
-- Assumes nothing.
use Rattle.std.specs.Prelude.{Err, Ok, Result, ⊤}
use Prim.Native.Nat.{ℕ, ◌≤◌, ◌<◌}
use mathlib.Core.Path.{◌≡◌, refl, sym, subst}
use mathlib.Core.Bool.{Bool, true, false, ◌||◌}
use mathlib.Core.List.{List}
use native.Mathlib.Omega.{arith}
use borrow.Author.Tests.{eqb-true, lt-leb}
use lib.Dec.{eqb}
use Rattle.basis.specs.Choice.{pick, ◌or◌}
use Rattle.refusals.specs.declared.Refusal.{Refusal}
use Rattle.refusals.specs.Table.{said, stop_refusal}
use Rattle.general.specs.General.{code_of}
use Rattle.header.specs.Faults.{header_fault}
use Rattle.rules.specs.Tape.{Body, ends}
use Rattle.rules.specs.First.{Stops, at_byte, at_end}
use Rattle.trace_rules.specs.Faults.{byte_fault, end_fault}
use Rattle.trace_rules.specs.Outcome as rules
use Rattle.trace_rules.proofs.Laws as laws
use Rattle.trace_rules.proofs.Laws.{Halts, halts_at, byte_halts, end_halts, stop_first}
use Rattle.trace.specs.declared.State.{State}
use Rattle.trace.specs.Fit.{fitb, stopb}
use Rattle.trace.specs.Answers.{stop_of}
use Rattle.trace.proofs.Facts.{fit_of}
use Rattle.trace_body.specs.Open.{opened, opened_on, fresh}
use Rattle.trace_demands.specs.Told.{StopTold, long, block, trace, count, four}
use Rattle.trace_demands.specs.TraceDemand1.{Told}

-- ---- a body's
halts_told : {b : List ℕ} {i p : ℕ} {r : Refusal} → Halts b i p r → StopTold b i p (said r)
halts_told laws.long = long
halts_told laws.block = block
halts_told laws.trace = trace
halts_told laws.count = count
halts_told laws.four = four

pub stop_told : (b : List ℕ) (d : Body) (r : Refusal) → rules.stop_of b d ≡ Err r → Told b d r
stop_told b d r e = go (subst (Stops (byte_fault b d) (end_fault b d) d) e (stop_first b d))
  where
    by : {p : ℕ} (i : ℕ) → i ≤ ends d → Halts b i p r → Told b d r
    by i l h = record { trace = i; inside = l; told = subst (λ (q : ℕ). StopTold b i q (said r)) (sym (halts_at h)) (halts_told h) }

    go : Stops (byte_fault b d) (end_fault b d) d (Err r) → Told b d r
    go (at_byte i n l h f c x) = by i l (byte_halts b d i _ _ r f)
    go (at_end i l f c x) = by i (omega (arith, l)) (end_halts b d i _ _ r f)

-- ---- a state's
pub data Number : ℕ → Type 0 where
  none : Number 0
  eight : Number 8
  fourteen : Number 14
  fifteen : Number 15
  twenty_four : Number 24
  twenty_five : Number 25

numbers : (n : ℕ) → stopb n ≡ true → Number n
unfolding stopb ◌or◌
numbers n e = go (eqb n 0) (eqb n 8) (eqb n 14) (eqb n 15) (eqb n 24) (eqb n 25) refl refl refl refl refl refl e
  where
    go : (a b c d f g : Bool) → eqb n 0 ≡ a → eqb n 8 ≡ b → eqb n 14 ≡ c → eqb n 15 ≡ d → eqb n 24 ≡ f → eqb n 25 ≡ g → ((a || b) or (c || d || f || g)) ≡ true → Number n
    go true b c d f g p q r s t u e = rw (eqb-true n 0 p) none
    go false true c d f g p q r s t u e = rw (eqb-true n 8 q) eight
    go false false true d f g p q r s t u e = rw (eqb-true n 14 r) fourteen
    go false false false true f g p q r s t u e = rw (eqb-true n 15 s) fifteen
    go false false false false true g p q r s t u e = rw (eqb-true n 24 t) twenty_four
    go false false false false false true p q r s t u e = rw (eqb-true n 25 u) twenty_five
    go false false false false false false p q r s t u e = let z : ◌≡◌ {A = Bool} false true = e in let y : ◌≡◌ {A = ℕ} 0 1 = cc in absurd (omega arith)

module _ (b : List ℕ) (s : State) where
  by_number : {n : ℕ} → Number n → s.stop ≡ n → (n ≡ 0 → ⊥) → StopTold b s.ends s.stopat (said (stop_of b s)) × ((said (stop_of b s)).number ≡ n)
  unfolding stop_of stop_refusal pick
  by_number none e z = absurd (z refl)
  by_number eight e z = rw e (four, refl)
  by_number fourteen e z = rw e (long, refl)
  by_number fifteen e z = rw e (block, refl)
  by_number twenty_four e z = rw e (trace, refl)
  by_number twenty_five e z = rw e (count, refl)

  pub state_told : fitb b s ≡ true → (s.stop ≡ 0 → ⊥) → StopTold b s.ends s.stopat (said (stop_of b s)) × ((said (stop_of b s)).number ≡ s.stop)
  state_told f z = by_number (numbers s.stop (fit_of b s f).stop) refl z

-- ---- an opening's
zero_unfit : (c : List ℕ) (t : Bool) → fitb c (fresh 0) ≡ t → t ≡ false
unfolding fresh
zero_unfit c false e = refl
zero_unfit c true e = absurd (omega (arith, (fit_of c (fresh 0) e).demuxed))

pub shut : (b c : List ℕ) (r : Refusal) → header_fault b ≡ Err r → fitb c (opened b) ≡ false
unfolding opened
shut b c r e = rw e (zero_unfit c (fitb c (fresh 0)) refl)

pub no_traces : (b c : List ℕ) → code_of b < 0x8000 → fitb c (opened b) ≡ false
unfolding opened pick
no_traces b c l = go (header_fault b) refl
  where
    go : (f : Result ⊤ Refusal) → header_fault b ≡ f → fitb c (opened_on (header_fault b) (code_of b)) ≡ false
    go (Err r) e = rw e (zero_unfit c (fitb c (fresh 0)) refl)
    go (Ok tt) e = rw (e, lt-leb 0x8000 (code_of b) l) (zero_unfit c (fitb c (fresh 0)) refl)
