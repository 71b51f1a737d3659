-- A slice that is told by one equation has one pointer and one list of bytes, so that a contract which tells a part leaves one.
-- Assumes nothing.
use Prim.Native.Nat.{ℕ}
use mathlib.Core.Path.{◌≡◌, ap}
use mathlib.Core.List.{List}
use Rattle.basis.proofs.Answers.{one_answer}
use Rattle.parts.specs.Slices.{Slice, slice}

pub one_part : {told : Slice} {p p' : ℕ × ℕ} {l l' : List ℕ} → slice p l ≡ told → slice p' l' ≡ told → (p ≡ p') × (l ≡ l')
one_part e e' = let w = one_answer e e' in (ap (λ (s : Slice). s.pointer) w, ap (λ (s : Slice). s.bytes) w)
