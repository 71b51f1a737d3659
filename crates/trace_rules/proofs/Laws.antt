-- Laws of the rules of a trace body by themselves.
-- Assumes nothing.
use Rattle.std.specs.Prelude.{Err}
use Prim.Native.Nat.{ℕ, ◌+◌}
use mathlib.Core.Path.{◌≡◌, refl, sym, subst}
use mathlib.Core.List.{List}
use Rattle.refusals.specs.declared.Refusal.{Refusal}
use Rattle.refusals.specs.declared.Refusal.TheVariants.{Long, Block, FourAt, Trace, Count}
use Rattle.refusals.specs.Table.{stop_place}
use Rattle.turns.specs.Turns.{turn_at}
use Rattle.rules.specs.Tape.{Body}
use Rattle.rules.specs.First.{Stops}
use Rattle.rules.proofs.First.{first_fault_lem}
use Rattle.rules.proofs.Laws.{only_when, only_or}
use Rattle.rules.proofs.Machine.{Broke, by_byte, by_end}
use Rattle.trace_rules.specs.Faults.{byte_fault, end_fault}
use Rattle.trace_rules.specs.Outcome.{stop_of}

-- the refusals that stop a trace body at place p of trace i
pub data Halts (b : List ℕ) (i p : ℕ) : Refusal → Type 0 where
  long : Halts b i p (Long p)
  block : Halts b i p (Block p)
  trace : Halts b i p (Trace p)
  count : Halts b i p (Count p)
  four : Halts b i p (FourAt p ((turn_at b i).scan_type + 1) ((turn_at b i).set + 1))

pub halts_at : {b : List ℕ} {i p : ℕ} {r : Refusal} → Halts b i p r → stop_place r ≡ p
halts_at long = refl
halts_at block = refl
halts_at trace = refl
halts_at count = refl
halts_at four = refl

module _ (b : List ℕ) (d : Body) where
  pub byte_halts : (i s p : ℕ) (r : Refusal) → byte_fault b d i s p ≡ Err r → Halts b i p r
  unfolding byte_fault
  byte_halts i s p =
      only_or (Halts b i p) _ _ (only_when (Halts b i p) _ (Long p) long)
      (only_or (Halts b i p) _ _ (only_when (Halts b i p) _ (Block p) block) (only_when (Halts b i p) _ (Trace p) trace))

  pub end_halts : (i s p : ℕ) (r : Refusal) → end_fault b d i s p ≡ Err r → Halts b i p r
  unfolding end_fault
  end_halts i s p =
      only_or (Halts b i p) _ _ (only_when (Halts b i p) _ (Block p) block)
      (only_or (Halts b i p) _ _ (only_when (Halts b i p) _ (FourAt p ((turn_at b i).scan_type + 1) ((turn_at b i).set + 1)) four)
      (only_when (Halts b i p) _ (Count p) count))

  pub broke_halts : (i : ℕ) (r : Refusal) → Broke (byte_fault b d) (end_fault b d) i r → Halts b i (stop_place r) r
  broke_halts i r (by_byte s p e) = let h = byte_halts i s p r e in subst (λ (q : ℕ). Halts b i q r) (sym (halts_at h)) h
  broke_halts i r (by_end s p e) = let h = end_halts i s p r e in subst (λ (q : ℕ). Halts b i q r) (sym (halts_at h)) h

  -- the stop is the first fault: what it names has that fault, and nothing before it has any
  pub stop_first : Stops (byte_fault b d) (end_fault b d) d (stop_of b d)
  stop_first = first_fault_lem (byte_fault b d) (end_fault b d) d
