-- The words of a code whose groups are not of ten bytes have one, two or four.
-- Assumes nothing.
use Prim.Native.Nat.{ℕ, ◌≤◌, ◌<◌}
use mathlib.Core.Path.{◌≡◌, sym, ◌∙◌, subst}
use native.Mathlib.Omega.{arith}
use Rattle.codes.specs.Codes.{group_of, per_of, lead_of, word_bytes_of}
use Rattle.codes.proofs.Rows.{some_sized, Words, alone, fours}

pub singles : (code w : ℕ) → group_of code ≡ w → 0 < w → (w ≡ 10 → ⊥) → (w ≤ 4) × (w ≡ 3 → ⊥)
singles code w e p n = go (some_sized code (subst (λ (x : ℕ). 0 < x) (sym e) p)).words
  where
    go : Words (group_of code) (per_of code) (lead_of code) (word_bytes_of code) → (w ≤ 4) × (w ≡ 3 → ⊥)
    go (alone g a b l three) = (omega arith, λ x. three (sym g ∙ e ∙ x))
    go (fours g a b c) = absurd (n (sym e ∙ g))
