-- What the contract of `header::AcceptedBlock::of` says leaves one answer: the block as it was lent, or its first refusal.
-- Assumes nothing.
use Rattle.std.specs.Prelude.{◌≡◌, List, ℕ, Result, ⊤, Ok, Err, IfOk, IfErr}
use Rattle.std.specs.Borrow.{Bor}
use Rattle.std.specs.Coded.{codes}
use mathlib.Core.HLevel.{Σ_prop_path}
use mathlib.Core.Path.{sym, ◌∙◌, ap}
use Rattle.refusals.specs.declared.Refusal.{Refusal}
use Rattle.header.specs.declared.accepted_block.AcceptedBlock.{AcceptedBlock}
use Rattle.header.specs.Faults.{header_fault}

-- that it is accepted has one proof at most
same : (a a' : AcceptedBlock) → a.block ≡ a'.block → a ≡ a'
same a a' e =
    ap (λ (p : (r : Bor (List ℕ)) × (header_fault r.now ≡ Ok tt)). record { block = p.0; accepted = p.1 })
    (let q : ◌≡◌ {A = (r : Bor (List ℕ)) × (header_fault r.now ≡ Ok tt)} (a.block, a.accepted) (a'.block, a'.accepted) = Σ_prop_path (λ r. hlevel codes) e in q)

-- no block is both
apart : (a : AcceptedBlock) (b : Bor (List ℕ)) (r : Refusal) → a.block ≡ b → header_fault b.now ≡ Err r → ◌≡◌ {A = Result ⊤ Refusal} (Ok tt) (Err r)
apart a b r p q = sym a.accepted ∙ ap (λ (x : Bor (List ℕ)). header_fault x.now) p ∙ q

-- what the contract says of an answer to block b
abbrev Said : Bor (List ℕ) → Result AcceptedBlock Refusal → Type 0
Said b z = IfOk z (λ a. a.block ≡ b) × IfErr z (λ r. header_fault b.now ≡ Err r)

pub one_block : (b : Bor (List ℕ)) (z z' : Result AcceptedBlock Refusal) → Said b z → Said b z' → z ≡ z'
one_block b (Ok a) (Ok a') p q = ap (λ (x : AcceptedBlock). Ok x) (same a a' (p.0 ∙ sym q.0))
one_block b (Ok a) (Err r) p q = let e = apart a b r p.0 q.1 in cc
one_block b (Err r) (Ok a) p q = let e = apart a b r q.0 p.1 in cc
one_block b (Err r) (Err r') p q = let e : ◌≡◌ {A = Result ⊤ Refusal} (Err r) (Err r') = sym p.1 ∙ q.1 in cc
