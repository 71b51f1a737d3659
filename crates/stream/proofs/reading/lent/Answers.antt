-- `stream::reading::lent` meets its contract.
-- Assumes nothing.
use Rattle.std.proofs.Common.{◌≡◌, ℕ, List, [], ◌∷◌, ap, refl, ◌∙◌}
use mathlib.Core.Logic.{◌⊎◌, inl, inr}
use borrow.Author.Rules.{rules}
use Rattle.basis.specs.Choice.{pick}
use Rattle.words.specs.Tables.{table_of, byte_code}
use Rattle.stream.proofs.Choose.{wide}
use Rattle.stream.proofs.reading.lent.Goals as goal

-- a code of one-byte words is the code of its table
own_code : {code : ℕ} → (code ≡ 0x0022) ⊎ (code ≡ 0x0042) → byte_code code ≡ code
unfolding byte_code pick
own_code (inl e) = rw e
own_code (inr e) = rw e

pub returns-in-34 : goal.returns-in-34
returns-in-34 c = λ _. c.from_ref.ensures.value ∙ ap (λ (t : List ℕ). t ∷ []) (c.lent.ensures ∙ ap table_of (own_code c.in-34.is))

pub returns-in_default : goal.returns-in_default
returns-in_default c = λ e. absurd (wide c.args.code _ refl c.requires (search rules) (search rules) e)
