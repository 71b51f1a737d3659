-- What it is for a contract to leave one answer.
-- Assumes nothing.
use Rattle.std.specs.Prelude.{ℕ, ◌≡◌, List}
use Rattle.std.specs.Borrow.{Bor}

-- A contract, as the checker reads it off the source (`Post`), speaks of the lifetimes, the arguments, the answer, and what was lent
-- as it stands at the end.
abbrev pub Contract : {K : Type 0} → (K → Type 0) → (K → Type 0) → (K → Type 0) → Type 1
Contract {K} Args Answer End = (κ : K) → Args κ → Answer κ → End κ → Type 0

-- It leaves one answer where any two that meet it for the same arguments are the same,
abbrev pub OneAnswer : {K : Type 0} {Args Answer End : K → Type 0} → Contract Args Answer End → Type 0
OneAnswer {K} {Args} {Answer} {End} post = (κ : K) (a : Args κ) (z z' : Answer κ) (e e' : End κ) → post κ a z e → post κ a z' e' → z ≡ z'

-- and one content of what is lent to be written, where any two that meet it leave the same there
abbrev pub OneContent : {K : Type 0} {Args Answer End : K → Type 0} {Content : Type 0}
    → Contract Args Answer End → ((κ : K) → End κ → Content) → Type 0
OneContent {K} {Args} {Answer} {End} post content =
    (κ : K) (a : Args κ) (z z' : Answer κ) (e e' : End κ) → post κ a z e → post κ a z' e' → content κ e ≡ content κ e'

-- "handed out as the very part of the caller's block": two parts that lie at one place in memory and have the same bytes
abbrev pub same_part : Bor (List ℕ) → Bor (List ℕ) → Type 0
same_part z z' = (z.ref_ptr ≡ z'.ref_ptr) × (z.now ≡ z'.now)

-- and one part of what was lent to be read, where any two that meet it are one
abbrev pub OnePart : {K : Type 0} {Args End : K → Type 0} → Contract Args (λ κ. Bor (List ℕ)) End → Type 0
OnePart {K} {Args} {End} post = (κ : K) (a : Args κ) (z z' : Bor (List ℕ)) (e e' : End κ) → post κ a z e → post κ a z' e' → same_part z z'

-- and one content of what is lent for good, where any two answers that meet it hold the same (no contract says where a static lies)
abbrev pub OneLent : {K : Type 0} {Args End : K → Type 0} → Contract Args (λ κ. Bor (List ℕ)) End → Type 0
OneLent {K} {Args} {End} post = (κ : K) (a : Args κ) (z z' : Bor (List ℕ)) (e e' : End κ) → post κ a z e → post κ a z' e' → z.now ≡ z'.now
