-- Laws of the rules by themselves.
-- Assumes nothing.
use Rattle.std.specs.Prelude.{Err, Ok, Result, ⊤}
use Prim.Native.Nat.{ℕ}
use mathlib.Core.Path.{◌≡◌, refl, sym, ap, subst}
use mathlib.Core.Bool.{Bool, true, false}
use mathlib.Core.Logic.{⊎_elim}
use Rattle.basis.specs.Choice.{pick}
use Rattle.refusals.specs.declared.Refusal.{Refusal}
use Rattle.refusals.specs.declared.Refusal.TheVariants.{Long, Block, Sync, Timing, Phase}
use Rattle.refusals.specs.Order.{when, or_else}
use Rattle.refusals.specs.Table.{stop_place}
use Rattle.rules.specs.Tape.{Body, byte_at}
use Rattle.rules.specs.First.{Stops, at_byte, at_end}
use Rattle.rules.specs.Scans.{Shape}
use Rattle.rules.specs.Faults.{byte_fault, end_fault}
use Rattle.rules.specs.Outcome.{stop_of}
use Rattle.refusals.proofs.Clears.{clear_at, at_either}
use Rattle.rules.proofs.First.{first_fault_lem}

-- the refusals that stop a body at place p
pub data Halts (p : ℕ) : Refusal → Type 0 where
  long : Halts p (Long p)
  block : Halts p (Block p)
  sync : Halts p (Sync p)
  timing : Halts p (Timing p)
  phase : Halts p (Phase p)

pub halts_at : {p : ℕ} {r : Refusal} → Halts p r → stop_place r ≡ p
halts_at long = refl
halts_at block = refl
halts_at sync = refl
halts_at timing = refl
halts_at phase = refl

-- what a fault can be
abbrev pub Only : (Refusal → Type 0) → Result ⊤ Refusal → Type 0
Only P f = (r : Refusal) → f ≡ Err r → P r

pub only_when : (P : Refusal → Type 0) (t : Bool) (q : Refusal) → P q → Only P (when t q)
unfolding pick
only_when P true q h r e = subst P (ap told e) h
  where
    told : Result ⊤ Refusal → Refusal
    told (Ok tt) = q
    told (Err r) = r
only_when P false q h r e = absurd (clear_at e)

pub only_or : (P : Refusal → Type 0) (a b : Result ⊤ Refusal) → Only P a → Only P b → Only P (or_else a b)
only_or P a b f g r e = ⊎_elim (λ q. f r q) (λ q. g r q.1) (at_either a b r e)

module _ (sh : Shape) (byte : ℕ → ℕ) where
  pub byte_halts : (i s p : ℕ) (r : Refusal) → byte_fault sh byte i s p ≡ Err r → Halts p r
  unfolding byte_fault
  byte_halts i s p =
      only_or (Halts p) _ _ (only_when (Halts p) _ (Long p) long)
      (only_or (Halts p) _ _ (only_when (Halts p) _ (Block p) block)
      (only_or (Halts p) _ _ (only_when (Halts p) _ (Sync p) sync)
      (only_or (Halts p) _ _ (only_when (Halts p) _ (Phase p) phase) (only_when (Halts p) _ (Timing p) timing))))

  pub end_halts : (i s p : ℕ) (r : Refusal) → end_fault sh byte i s p ≡ Err r → Halts p r
  unfolding end_fault
  end_halts i s p = only_when (Halts p) _ (Block p) block

-- the stop is the first fault: what it names has that fault, and nothing before it has any
pub stop_first : (sh : Shape) (d : Body) → Stops (byte_fault sh (byte_at d)) (end_fault sh (byte_at d)) d (stop_of sh d)
stop_first sh d = first_fault_lem (byte_fault sh (byte_at d)) (end_fault sh (byte_at d)) d

pub stop_halts : (sh : Shape) (d : Body) (r : Refusal) → stop_of sh d ≡ Err r → Halts (stop_place r) r
stop_halts sh d r e = go (subst (Stops (byte_fault sh (byte_at d)) (end_fault sh (byte_at d)) d) e (stop_first sh d))
  where
    by : {p : ℕ} → Halts p r → Halts (stop_place r) r
    by h = subst (λ (q : ℕ). Halts q r) (sym (halts_at h)) h

    go : Stops (byte_fault sh (byte_at d)) (end_fault sh (byte_at d)) d (Err r) → Halts (stop_place r) r
    go (at_byte i n h l f c b) = by (byte_halts sh (byte_at d) i _ _ r f)
    go (at_end i h f c b) = by (end_halts sh (byte_at d) i _ _ r f)
