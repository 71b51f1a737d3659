-- Whole blocks of a body of any kind: the state after some of them, by what their bytes and a block end do; and the calls that hand them over.
-- Assumes nothing.
use Prim.Native.Nat.{ℕ, ◌+◌, ◌*◌}
use mathlib.Core.Path.{◌≡◌, refl}
use mathlib.Core.Bool.{Bool, true}
use mathlib.Core.List.{List, [], ◌∷◌, ◌++◌, append-nil}
use native.Mathlib.Omega.{arith}
use borrow.Author.Tests.{le-ltb}
use lib.ListN.{length, length-append}
use Rattle.basis.specs.Choice.{pick}
use Rattle.framing.specs.Cuts.{joined}
use Rattle.agree.specs.Calls.{Call, put, end, BytesIn, body_of}
use Rattle.files.specs.Outcomes.{body_in}
use Rattle.files.proofs.Items.{Items}

module _ {St : Type 0} (after : St → List ℕ → St) (end_of : St → St) where
  -- the state after some blocks
  abbrev pub state_after : St → List (List ℕ) → St
  state_after s [] = s
  state_after s (x ∷ xs) = state_after (end_of (after s x)) xs

  pub body_snoc : (s : St) (blocks : List (List ℕ)) (x : List ℕ) → state_after s (blocks ++ (x ∷ [])) ≡ end_of (after (state_after s blocks) x)
  body_snoc s [] x = refl
  body_snoc s (y ∷ ys) x = body_snoc (end_of (after s y)) ys x

  -- fit, where bytes and block ends keep it
  pub body_fit : (fit : St → Bool) → ((s : St) (bs : List ℕ) → fit s ≡ true → fit (after s bs) ≡ true) → ((s : St) → fit s ≡ true → fit (end_of s) ≡ true)
      → (s : St) (blocks : List (List ℕ)) → fit s ≡ true → fit (state_after s blocks) ≡ true
  body_fit fit on over s [] f = f
  body_fit fit on over s (x ∷ xs) f = body_fit fit on over (end_of (after s x)) xs (over (after s x) (on s x f))

  -- as many bytes on as they have, unless the body stops
  pub body_place : (place stop : St → ℕ)
      → ((s : St) (bs : List ℕ) → stop (after s bs) ≡ 0 → (place (after s bs) ≡ place s + length bs) × (stop s ≡ 0))
      → ((s : St) → stop (end_of s) ≡ 0 → (place (end_of s) ≡ place s) × (stop s ≡ 0))
      → (s : St) (blocks : List (List ℕ)) → stop (state_after s blocks) ≡ 0 → (place (state_after s blocks) ≡ place s + length (joined blocks)) × (stop s ≡ 0)
  body_place place stop on over s [] z = (omega arith, z)
  body_place place stop on over s (x ∷ xs) z =
      let later = body_place place stop on over (end_of (after s x)) xs z in
      let end = over (after s x) later.1 in
      let one = on s x end.1 in
      (rw length-append (omega (arith, later.0, end.0, one.0)), one.1)

-- the calls that hand some blocks over
abbrev pub calls_of : List (List ℕ) → List Call
calls_of [] = []
calls_of (x ∷ xs) = put x (2 * length x) ∷ end ∷ calls_of xs

pub calls_bytes : (xs : List (List ℕ)) → Items xs → BytesIn (calls_of xs)
calls_bytes [] p = tt
calls_bytes (x ∷ xs) p = (p.0, calls_bytes xs p.1)

pub calls_spell : (xs : List (List ℕ)) → body_of (calls_of xs) ≡ body_in xs
unfolding pick
calls_spell [] = refl
calls_spell (x ∷ xs) =
    let later = calls_spell xs in
    rw (le-ltb (2 * length x) (2 * length x) (omega arith), later, append-nil x)
