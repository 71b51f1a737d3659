-- Each contract over a view leaves one answer, since it equates it.
-- Assumes nothing.
use seplogic.Ra.Ura.{Ura}
use base.Logic.{ent, sep, fst∗, snd∗}
use contract.Monad.{fact, fact_i, fact_use}
use Rattle.basis.proofs.Answers.{one_answer}
use Rattle.parts.proofs.SliceLaws.{one_part}
use Rattle.demands.specs.Held.{UniqueHeld}

-- what follows of two facts
both : {M : Type 1} (𝓤 : Ura M) {P Q R : Type 0} → (P → Q → R) → ent 𝓤 (sep 𝓤 (fact 𝓤 P) (fact 𝓤 Q)) (fact 𝓤 R)
both 𝓤 {P} {Q} {R} h =
    fact_use 𝓤 P (fst∗ 𝓤 (fact 𝓤 P) (fact 𝓤 Q)) (λ p. fact_use 𝓤 Q (snd∗ 𝓤 (fact 𝓤 P) (fact 𝓤 Q)) (λ q. fact_i 𝓤 R (sep 𝓤 (fact 𝓤 P) (fact 𝓤 Q)) (h p q)))

pub unique_held : UniqueHeld
unique_held = record {
  carry = λ w κs a g z z' e e'. both w.𝓤 (λ p q i. record { block = one_answer p.0 q.0 i; answer = one_answer p.1 q.1 i });
  answer_of = λ w κs a g z z' e e'. both w.𝓤 one_answer;
  descriptor_of = λ w κs a g z z' e e'. both w.𝓤 one_answer;
  sample_index_of = λ w κs a g z z' e e'. both w.𝓤 one_answer;
  sample_place_of = λ w κs a g z z' e e'. both w.𝓤 one_answer;
  constants_of = λ w κs a g z z' e e'. both w.𝓤 one_part;
  extended_of = λ w κs a g z z' e e'. both w.𝓤 one_part;
  external_of = λ w κs a g z z' e e'. both w.𝓤 one_part;
  skew_of = λ w κs a g z z' e e'. both w.𝓤 one_part;
  skew_fault_of = λ w κs a g z z' e e'. both w.𝓤 one_answer;
  sample_time_of = λ w κs a g z z' e e'. both w.𝓤 one_answer;
  open_of = λ w κs a g z z' e e'. both w.𝓤 one_answer;
}
