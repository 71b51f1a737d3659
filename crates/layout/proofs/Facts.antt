-- What an accepted header says of the numbers that a question names.
-- Assumes nothing.
use Rattle.std.specs.Prelude.{Ok, ◌&&◌, ok_or}
use Rattle.std.specs.Bool.{then_some}
use Rattle.std.specs.Ordering.{is_le, nat_cmp}
use Rattle.std.proofs.lemmas.Bool.Decides.{nat_tests}
use Prim.Native.Nat.{ℕ, ◌≤◌}
use mathlib.Core.Path.{◌≡◌, refl}
use mathlib.Core.Bool.{Bool, true, false, not}
use mathlib.Core.List.{List}
use native.Mathlib.Omega.{arith}
use borrow.Author.Tests.{not-false}
use Rattle.basis.specs.Choice.{pick}
use Rattle.basis.proofs.Choices.{and_true}
use Rattle.refusals.specs.declared.Refusal.{Refusal}
use Rattle.refusals.specs.Order.{when}
use Rattle.refusals.proofs.Clears.{when_clear}
use Rattle.general.specs.General.{scan_types, channel_sets, within}
use Rattle.general.proofs.Kept.{within_is}
use Rattle.header.specs.Faults.{header_fault}
use Rattle.header.specs.Answers.{is_set}
use Rattle.header.proofs.Accepted.{types_few, sets_few}

-- a rule that is kept
pub kept : (t : Bool) (r : Refusal) → when (not t) r ≡ Ok tt → t ≡ true
kept t r e = not-false t (when_clear (not t) r e)

-- and one asked by `then_some` and `ok_or`
pub refuses : (t : Bool) (r : Refusal) → ok_or (then_some t tt) r ≡ when (not t) r
unfolding pick
refuses true r = refl
refuses false r = refl

pub scan_small : (b : List ℕ) (t : ℕ) → header_fault b ≡ Ok tt → within 1 t (scan_types b) ≡ true → (1 ≤ t) × (t ≤ 99)
scan_small b t e p = let x = within_is 1 t (scan_types b) p in (x.0, omega (arith, x.1, (types_few b e).1))

pub set_small : (b : List ℕ) (t s : ℕ) → header_fault b ≡ Ok tt → is_set b t s ≡ true → ((1 ≤ t) × (t ≤ 99)) × ((1 ≤ s) × (s ≤ 99))
unfolding is_set
set_small b t s e p =
    let w = and_true (within 1 t (scan_types b)) _ p in
    let y = within_is 1 s (channel_sets b) w.1 in
    (scan_small b t e w.0, (y.0, omega (arith, y.1, (sets_few b e).1)))

-- what `contains` answers at `a..=b`
pub in_range : (a b x : ℕ) → (is_le (nat_cmp a x) && is_le (nat_cmp x b)) ≡ within a x b
unfolding within
in_range a b x = grind (arith, nat_tests)
