-- "Header order is 1 to 10": rules looked at in order, of which the first that is broken answers.
-- Assumes nothing.
use Rattle.std.specs.Prelude.{ℕ, Bool, Err, Ok, Result, ⊤}
use Rattle.basis.specs.Choice.{pick}
use Rattle.basis.specs.Upto.{upto}
use Rattle.refusals.specs.declared.Refusal.{Refusal}

-- a refusal where the test holds
abbrev pub when : Bool → Refusal → Result ⊤ Refusal
when t r = pick t (Err r) (Ok tt)

-- the first rule's refusal, or where it is kept the second's
abbrev pub or_else : Result ⊤ Refusal → Result ⊤ Refusal → Result ⊤ Refusal
or_else (Ok tt) b = b
or_else (Err r) b = Err r

-- the first refusal among f 0, f 1, .. f (n - 1)
abbrev pub first_upto : (ℕ → Result ⊤ Refusal) → ℕ → Result ⊤ Refusal
first_upto = upto or_else (Ok tt)
