-- A byte of the sample words, by where it stands in its word.
-- Assumes nothing.
use Rattle.std.proofs.Common.{◌≡◌, ℕ, ◌-◌, ◌%◌, Bool, true, false, eqb, sym, refl, ◌∙◌, arith, eqb-true}
use mathlib.Core.Bool.{false≢true}
use Rattle.basis.specs.Choice.{pick}
use Rattle.codes.specs.Codes.{group_of}
use Rattle.words.specs.Words.{value_of}
use Rattle.scan.specs.declared.State.{State}
use Rattle.scan.specs.Step.{word, plain, grouped, quiet, still, sample, moved, shift, low}
use Rattle.stream.specs.Spots.{word_ends, leads, exponent, word_bytes}

-- what a byte of groups of w bytes does
data Does (s : State) (b w q : ℕ) : Type 0 where
  gives : word_ends w q ≡ true → word s b q ≡ sample s (value_of s.shape.code (exponent w q s.exponents) (low (shift s.held b) (word_bytes w))) b → Does s b w q
  lead : word_ends w q ≡ false → leads w q ≡ true → word s b q ≡ still (moved s s.track (low (shift s.held b) 2) s.off b) → Does s b w q
  none : word_ends w q ≡ false → leads w q ≡ false → word s b q ≡ quiet s b → Does s b w q

does : (s : State) (b w q : ℕ) → group_of s.shape.code ≡ w → Does s b w q
unfolding word_ends leads exponent word_bytes word plain grouped pick
does s b w q g = rw (sym g) (go (eqb (group_of s.shape.code) 10) (eqb ((q - 8) % 10 % 2) 0) (eqb ((q - 8) % 10) 1) (eqb ((q - 7) % group_of s.shape.code) 0) refl refl refl refl)
  where
    go : (t u v x : Bool) → eqb (group_of s.shape.code) 10 ≡ t → eqb ((q - 8) % 10 % 2) 0 ≡ u → eqb ((q - 8) % 10) 1 ≡ v → eqb ((q - 7) % group_of s.shape.code) 0 ≡ x → Does s b (group_of s.shape.code) q
    go true true true x e f h k = absurd (even_one ((q - 8) % 10) (eqb-true _ 0 f) (eqb-true _ 1 h))
      where
        even_one : (n : ℕ) → n % 2 ≡ 0 → n ≡ 1 → ⊥
        even_one n a c = omega arith
    go true true false x e f h k = none (rw (e, f)) (rw (e, h)) (rw (e, f))
    go true false true x e f h k = lead (rw (e, f, h)) (rw (e, h)) (rw (e, f, h))
    go true false false x e f h k = gives (rw (e, f, h)) (rw (e, f, h))
    go false u v true e f h k = gives (rw (e, k)) (rw (e, k))
    go false u v false e f h k = none (rw (e, k)) (rw e) (rw (e, k))

clash : (t : Bool) → t ≡ true → t ≡ false → ⊥
clash t a b = false≢true (sym b ∙ a)

module _ (s : State) (b w q : ℕ) (g : group_of s.shape.code ≡ w) where
  pub word_gives : word_ends w q ≡ true → word s b q ≡ sample s (value_of s.shape.code (exponent w q s.exponents) (low (shift s.held b) (word_bytes w))) b
  word_gives e = go (does s b w q g)
    where
      go : Does s b w q → word s b q ≡ sample s (value_of s.shape.code (exponent w q s.exponents) (low (shift s.held b) (word_bytes w))) b
      go (gives x y) = y
      go (lead x y z) = absurd (clash (word_ends w q) e x)
      go (none x y z) = absurd (clash (word_ends w q) e x)

  pub word_leads : word_ends w q ≡ false → leads w q ≡ true → word s b q ≡ still (moved s s.track (low (shift s.held b) 2) s.off b)
  word_leads e l = go (does s b w q g)
    where
      go : Does s b w q → word s b q ≡ still (moved s s.track (low (shift s.held b) 2) s.off b)
      go (gives x y) = absurd (clash (word_ends w q) x e)
      go (lead x y z) = z
      go (none x y z) = absurd (clash (leads w q) l y)

  pub word_none : word_ends w q ≡ false → leads w q ≡ false → word s b q ≡ quiet s b
  word_none e l = go (does s b w q g)
    where
      go : Does s b w q → word s b q ≡ quiet s b
      go (gives x y) = absurd (clash (word_ends w q) x e)
      go (lead x y z) = absurd (clash (leads w q) y l)
      go (none x y z) = z
