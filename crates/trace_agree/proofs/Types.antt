-- The scan type of a trace and of the trace before it.
-- Assumes nothing.
use Prim.Native.Nat.{ℕ, zero, suc, ◌-◌, ◌≤◌, ◌<◌}
use mathlib.Core.Path.{◌≡◌, refl, sym, ap, ◌∙◌}
use mathlib.Core.Bool.{true, false}
use mathlib.Core.List.{List}
use native.Mathlib.Nat.{zero-sub}
use native.Mathlib.Omega.{arith}
use lib.Dec.{eqb}
use borrow.Author.Tests.{eqb-true, eqb-false}
use Rattle.basis.specs.Upto.{sum_upto}
use Rattle.general.specs.General.{scan_types}
use Rattle.layout.specs.Indexes.{set_at}
use Rattle.layout.proofs.SetLaws.{set_at_lem, set_below, rest_below}
use Rattle.turns.specs.Turns.{traces_of, trace_count, holder_of, type_at, turn_in, turn_at}
use Rattle.turns.proofs.Holders.{set_is}
use Rattle.agree.proofs.Tests.{clash}
use Rattle.rules.specs.Tape.{Body}
use Rattle.trace_rules.specs.Faults.{scans_of, type_scans}
use Rattle.trace_agree.proofs.Form.{present_at}

module _ (b : List ℕ) where
  first_test : (i : ℕ) → (turn_at b i).first ≡ eqb (i - (type_at b i).first) 0
  unfolding turn_at turn_in
  first_test i = refl

  first_low : (i : ℕ) → (type_at b i).first ≤ i
  unfolding type_at holder_of
  first_low i = (set_at_lem (traces_of b) i (scan_types b)).begins

  pub first_is : (i : ℕ) → (turn_at b i).first ≡ true → (type_at b i).first ≡ i
  first_is i e = omega (arith, first_low i, eqb-true (i - (type_at b i).first) 0 (sym (first_test i) ∙ e))

  zero_first : (turn_at b 0).first ≡ true
  zero_first = first_test 0 ∙ ap (λ (x : ℕ). eqb x 0) (zero-sub (type_at b 0).first)

  type_same : (j : ℕ) → (turn_at b (suc j)).first ≡ false → suc j < trace_count b → (type_at b j).first ≡ (type_at b (suc j)).first
  unfolding type_at holder_of trace_count
  type_same j e l =
      let f = traces_of b in
      let m = set_at (traces_of b) (suc j) (scan_types b) in
      let n : suc j - (type_at b (suc j)).first ≡ 0 → ⊥ = eqb-false (suc j - (type_at b (suc j)).first) 0 (sym (first_test (suc j)) ∙ e) in
      ap (sum_upto f)
      (set_is f j (scan_types b) m (set_below f (scan_types b) (suc j) l) (omega (arith, first_low (suc j), n))
      (omega (arith, first_low (suc j), n, rest_below f (scan_types b) (suc j) l)))

  -- what was found at the scan type's first trace
  pub present_same : (d : Body) (i : ℕ) → (turn_at b i).first ≡ false → i < trace_count b → present_at b d i ≡ type_scans b d i
  present_same d zero e l = absurd (clash (turn_at b 0).first zero_first e)
  present_same d (suc j) e l = ap (scans_of b d) (type_same j e l)
