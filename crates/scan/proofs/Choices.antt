-- More laws of a choice: with what its test said.
-- Assumes nothing.
use mathlib.Core.Path.{◌≡◌, refl}
use mathlib.Core.Bool.{Bool, true, false}
use Rattle.basis.specs.Choice.{pick}

-- what holds of each where its test says so holds of the one picked
pub pick_cases : {A : Type 0} (P : A → Type 0) (b : Bool) {x y : A} → (b ≡ true → P x) → (b ≡ false → P y) → P (pick b x y)
unfolding pick
pick_cases P true h k = h refl
pick_cases P false h k = k refl

-- a choice of tests that holds, by cases
pub pick_true : (t : Bool) (a b : Bool) {P : Type 0} → pick t a b ≡ true → (a ≡ true → P) → (b ≡ true → P) → P
unfolding pick
pick_true true a b h f g = f h
pick_true false a b h f g = g h
