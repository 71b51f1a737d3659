-- The reader's state after p bytes and i block ends of the whole body, in closed form by the rules' own words.
-- Assumes nothing.
use Prim.Native.Nat.{ℕ, zero, suc, ◌+◌, ◌-◌, ◌/◌, ◌%◌, ◌<◌}
use mathlib.Core.Path.{◌≡◌, refl, subst}
use mathlib.Core.Bool.{Bool, true, false, not}
use native.Mathlib.Nat.{add-zero}
use native.Mathlib.Omega.{arith}
use mathlib.Core.List.{List}
use lib.Dec.{eqb, ltb}
use Rattle.basis.specs.Choice.{pick, ◌and◌, ◌or◌}
use Rattle.refusals.specs.declared.Refusal.{Refusal}
use Rattle.refusals.specs.Table.{said}
use Rattle.block.specs.Bytes.{byte}
use Rattle.codes.specs.Codes.{group_of}
use Rattle.general.specs.General.{code_of, skew_fields, within}
use Rattle.turns.specs.declared.Turn.{Turn}
use Rattle.turns.specs.Turns.{turn_at, skew_at, writes}
use Rattle.scan.specs.Step.{shift, low}
use Rattle.rules.specs.Tape.{Body, start_of, byte_at}
use Rattle.trace_rules.specs.Headers.{header_wrong}
use Rattle.trace_rules.specs.Faults.{type_scans}
use Rattle.trace_rules.specs.Outcome.{done_before, off_before, scans_read}
use Rattle.trace.specs.declared.State.{State}
use Rattle.trace.specs.Step.{halted, digits, namedb, freeb, skewb, otherb, soundb}
use Rattle.agree.proofs.Form.{tail}

-- ---- a header byte by the rules, and by the reader
kept : (e : Bool) → e ≡ not (not e or false)
unfolding ◌or◌
kept true = refl
kept false = refl

kept_turn : (e : Bool) → e ≡ not ((not e or false) or false)
unfolding ◌or◌
kept_turn true = refl
kept_turn false = refl

kept_skew : (k e : Bool) → (k or e) ≡ not ((not k and not e) or false)
unfolding ◌and◌ ◌or◌
kept_skew true e = refl
kept_skew false true = refl
kept_skew false false = refl

kept_zero : (e : Bool) → e ≡ not (not e)
kept_zero true = refl
kept_zero false = refl

-- what holds of each of n numbers from a on
abbrev Each : (ℕ → Type 0) → ℕ → ℕ → Type 0
Each P a zero = Unit {0}
Each P a (suc n) = P a × Each P (suc a) n

each : (P : ℕ → Type 0) (a n : ℕ) → Each P a n → (k : ℕ) → k < n → P (a + k)
each P a zero h k l = absurd (omega arith)
each P a (suc n) h zero l = rw (add-zero a) h.0
each P a (suc n) h (suc k) l = let e : suc a + k ≡ a + suc k = omega arith in subst P e (each P (suc a) n h.1 k (omega arith))

-- byte n + 1 of 1 to 20
pub header_same : (b : List ℕ) (i n x : ℕ) → n < 20 → soundb b (turn_at b i) (n + 1) x ≡ not (header_wrong b i (n + 1) x)
unfolding soundb namedb digits otherb freeb skewb header_wrong within pick ◌and◌ ◌or◌
header_same b i n x l =
    let e : 1 + n ≡ n + 1 = omega arith in
    subst P e
    (each P 1 20 (
      kept (eqb x (byte b 1)),
      (
        kept (eqb x (byte b 2)),
        (
          kept_turn (writes x (u.scan_type + 1)),
          (
            kept_turn (writes x (u.set + 1)),
            (
              kept_turn (writes x ((u.channel + 1) / 100)),
              (
                kept (writes x ((u.channel + 1) % 100)),
                (
                  refl,
                  (
                    refl,
                    (
                      refl,
                      (
                        kept_zero (eqb x 0),
                        (
                          kept_skew (eqb (skew_fields b) 0) (eqb x (skew_at b u)),
                          (
                            kept_zero (eqb x 0),
                            (refl, (refl, (refl, (kept_zero (eqb x 0), (kept_zero (eqb x 0), (kept_zero (eqb x 0), (kept_zero (eqb x 0), (kept_zero (eqb x 0), tt)))))))),
                          ),
                        ),
                      ),
                    ),
                  ),
                ),
              ),
            ),
          ),
        ),
      ),
    ) n l)
  where
    u : Turn
    u = turn_at b i

    P : ℕ → Type 0
    P m = soundb b (turn_at b i) m x ≡ not (header_wrong b i m x)

module _ (b : List ℕ) (d : Body) where
  -- where a group's exponents end, in a trace
  unfoldable pub lead_end : ℕ → Bool
  lead_end n = pick (ltb n 20) false (pick (eqb (group_of (code_of b)) 10) (eqb ((n - 20) % 10) 1) false)

  -- the exponents after n bytes of the trace that begins at place s
  unfoldable pub exps_in : ℕ → ℕ → ℕ
  exps_in s zero = 0
  exps_in s (suc n) = pick (lead_end n) (low (shift (tail (byte_at d) (s + n)) (byte_at d (s + n))) 2) (exps_in s n)

  pub exps_next : (s n : ℕ) → exps_in s (suc n) ≡ pick (lead_end n) (low (shift (tail (byte_at d) (s + n)) (byte_at d (s + n))) 2) (exps_in s n)
  unfolding exps_in
  exps_next s n = refl

  -- the scans of the scan type of the trace that ended last
  abbrev pub present_at : ℕ → ℕ
  present_at zero = 0
  present_at (suc i) = type_scans b d i

  abbrev pub form : ℕ → ℕ → State
  form i p =
      record {
        code = code_of b;
        place = p;
        ends = i;
        at = p - start_of d i;
        samples = done_before b d p;
        off = off_before b d p;
        present = present_at i;
        scans = scans_read b d i;
        held = tail (byte_at d) p;
        exponents = exps_in (start_of d i) (p - start_of d i);
        stop = 0;
        stopat = 0;
      }

  -- halted by a refusal
  abbrev pub halt_at : Refusal → ℕ → ℕ → State
  halt_at r i p = halted (form i p) (said r).number
