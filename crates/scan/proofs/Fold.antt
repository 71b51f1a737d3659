-- The folds over bytes: over a list that is joined, over a stopped state, and how much they write.
-- Assumes nothing.
use Prim.Native.Nat.{ℕ, ◌*◌, ◌≤◌}
use mathlib.Core.Path.{◌≡◌, refl}
use mathlib.Core.Bool.{false}
use mathlib.Core.List.{List, [], ◌∷◌, ◌++◌, append_assoc}
use native.Mathlib.Omega.{arith}
use lib.Dec.{eqb}
use lib.ListN.{length, length-append}
use Rattle.std.specs.Prelude.{Option, None, Some}
use Rattle.basis.specs.Choice.{pick}
use Rattle.words.specs.declared.Value.{Value}
use Rattle.scan.specs.declared.State.{State}
use Rattle.scan.specs.declared.Stepped.{Stepped}
use Rattle.scan.specs.Step.{step, still, after, wrote, m_then_x, m_and_x}

pub after_append : (s : State) (a b : List ℕ) → after s (a ++ b) ≡ after (after s a) b
unfolding after
after_append s [] b = refl
after_append s (x ∷ a) b = after_append (step s x).state a b

pub wrote_append : (s : State) (a b : List ℕ) → wrote s (a ++ b) ≡ wrote s a ++ wrote (after s a) b
unfolding after wrote
wrote_append s [] b = refl
wrote_append s (x ∷ a) b = rw (wrote_append (step s x).state a b, append_assoc)

some_length : (v : Option Value) → length (m_then_x v) ≤ 2
some_length None = omega arith
some_length (Some v) = omega arith

pair_length : (r : Stepped State) → length (m_and_x r) ≤ 2
unfolding m_and_x
pair_length r = some_length r.value

pub wrote_length : (s : State) (bs : List ℕ) → length (wrote s bs) ≤ 2 * length bs
unfolding wrote
wrote_length s [] = omega arith
wrote_length s (b ∷ bs) = simp length-append (omega (arith, pair_length (step s b), wrote_length (step s b).state bs))

-- a stopped state takes nothing more
pub step_stopped : (s : State) (b : ℕ) → eqb s.stop 0 ≡ false → step s b ≡ still s
unfolding step pick
step_stopped s b h = rw h

pub after_stopped : (s : State) (bs : List ℕ) → eqb s.stop 0 ≡ false → after s bs ≡ s
unfolding after still
after_stopped s [] h = refl
after_stopped s (b ∷ bs) h = rw (step_stopped s b h) (after_stopped s bs h)

pub wrote_stopped : (s : State) (bs : List ℕ) → eqb s.stop 0 ≡ false → wrote s bs ≡ []
unfolding wrote m_and_x still pick
wrote_stopped s [] h = refl
wrote_stopped s (b ∷ bs) h = rw (step_stopped s b h) (wrote_stopped s bs h)
