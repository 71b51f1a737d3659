-- Progress: a step from within a portion goes on, and stays within it.
-- Assumes nothing.
use Prim.Native.Nat.{ℕ, ◌+◌, ◌-◌, ◌≤◌, ◌<◌}
use mathlib.Core.Path.{◌≡◌, refl}
use mathlib.Core.Bool.{Bool, true, false}
use mathlib.Core.List.{List, [], ◌∷◌}
use native.Mathlib.Omega.{arith}
use lib.Dec.{ltb, eqb}
use lib.ListN.{length, get_or}
use borrow.Author.Tests.{ltb-true, lt-leb}
use Rattle.basis.specs.Choice.{pick}
use Rattle.framing.specs.declared.Frame.{Frame}
use Rattle.framing.specs.declared.Frame.TheVariants.{Start, Length, Second, Third, Fourth, Item, Over, Wrong}
use Rattle.framing.specs.declared.Step.{Step}
use Rattle.framing.specs.Image.{length_of}
use Rattle.framing.specs.Next.{meet_of, next_of}

-- a step to a later place, at most the end
pub record Within (at end : ℕ) (s : Step) : Type 0 where
  pub grows : at < s.to
  pub stays : s.to ≤ end

module _ (at end : ℕ) (here : at < end) where
  either : (t : Bool) {a b : Step} → (t ≡ true → Within at end a) → (t ≡ false → Within at end b) → Within at end (pick t a b)
  unfolding pick
  either true p q = p refl
  either false p q = q refl

  by_one : {s : Step} → s.to ≡ at + 1 → Within at end s
  by_one e = record { grows = omega arith; stays = omega arith }

  to_end : {s : Step} → s.to ≡ end → Within at end s
  to_end e = record { grows = omega arith; stays = omega arith }

  meet_within : (f : Frame) (x : ℕ) → Within at end (meet_of f x at end)
  meet_within Start x = by_one refl
  meet_within (Length m) x = by_one refl
  meet_within (Second m a) x = by_one refl
  meet_within (Third m a b) x = by_one refl
  meet_within (Fourth m a b c) x = either (eqb (length_of (a ∷ b ∷ c ∷ x ∷ [])) 0) (λ _. by_one refl) (λ _. by_one refl)
  meet_within (Item n) x =
      either (ltb n (end - at))
      (λ e. let h : n < end - at = ltb-true n (end - at) e in record { grows = omega arith; stays = omega arith })
      (λ _. to_end refl)
  meet_within Over x = to_end refl
  meet_within Wrong x = to_end refl

pub forward : (f : Frame) (bytes : List ℕ) (at : ℕ) → at < length bytes → Within at (length bytes) (next_of f bytes at)
unfolding pick
forward f bytes at h = rw (lt-leb (length bytes) at h) (meet_within at (length bytes) h f (get_or bytes at 0))
