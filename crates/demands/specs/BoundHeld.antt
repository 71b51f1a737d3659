-- The calls over a header that is carried with its bytes answer the definitions too, those of the block that is carried.
-- Assumes nothing.
use Rattle.std.specs.Prelude.{◌≡◌}
use base.Logic.{ent}
use contract.Lifetimes.{Lfts}
use contract.Monad.{fact}
use borrow.Fn.World.{World}
use denote.Triple.Clauses.{Ended, AtExit}
use denote.Triple.Entry.{Args, Res}
use Rattle.header.specs.Answers.{header_answer, descriptor_answer}
use Rattle.layout.specs.Indexes.{index_answer, place_answer}
use Rattle.parts.specs.Parts.{constants_part, extended_part, external_part}
use Rattle.skew.specs.Skews.{skew_fault, skew_part}
use Rattle.skew.specs.Times.{time_answer}
use Rattle.body.specs.Open.{opened}
use Rattle.view.specs.contracts.Carried.carry as view-carry
use Rattle.view.specs.contracts.Carried.answer as view-answer-of
use Rattle.view.specs.contracts.Carried.descriptor as view-descriptor-of
use Rattle.view.specs.contracts.Carried.sample_index as view-sample-index-of
use Rattle.view.specs.contracts.Carried.sample_place as view-sample-place-of
use Rattle.view.specs.contracts.Carried.constants as view-constants-of
use Rattle.view.specs.contracts.Carried.extended as view-extended-of
use Rattle.view.specs.contracts.Carried.external as view-external-of
use Rattle.view.specs.contracts.Carried.skew as view-skew-of
use Rattle.view.specs.contracts.Carried.skew_fault as view-skew-fault-of
use Rattle.view.specs.contracts.Carried.sample_time as view-sample-time-of
use Rattle.view.specs.contracts.Carried.open as view-open-of
use Rattle.demands.specs.Held.{Claimed}
use Rattle.demands.specs.Bound.{lent, first, second, third, fourth, fifth}

-- what is said of the arguments and the answer
abbrev pub Saying : Ended → Type 1
Saying F = (κs : Lfts F.signature.lifetimes) → Args F.signature κs → Res F.signature κs → Type 0

-- what the contract ensures of an answer entails it, at every model
abbrev pub Ensures : (F : Ended) → Claimed F → Saying F → Type 2
Ensures F claimed says =
    (w : World) (κs : Lfts F.signature.lifetimes) (a : Args F.signature κs) →
    let c = claimed _ w.𝓤 w.𝓛 w.𝓜.mem w.𝓡.returns κs a in
    (g : c.ghost) (z : Res F.signature κs) (e : AtExit F κs) → ent w.𝓤 (c.ensures g z e) (fact w.𝓤 (says κs a z))

pub record BoundHeld : Type 2 where
  -- the very slice that was lent is carried, with its header's answer
  pub carry : Ensures view-carry.ended (λ M 𝓤. view-carry.clauses {M = M} {𝓤 = 𝓤})
      (λ κs a z. (z.block ≡ first a) × (z.answer ≡ header_answer (first a).now))
  -- that answer as it was read
  pub answer_of : Ensures view-answer-of.ended (λ M 𝓤. view-answer-of.clauses {M = M} {𝓤 = 𝓤})
      (λ κs a z. z ≡ (first a).answer)
  -- the questions, the parts, and the opening of a body
  pub descriptor_of : Ensures view-descriptor-of.ended (λ M 𝓤. view-descriptor-of.clauses {M = M} {𝓤 = 𝓤})
      (λ κs a z. z ≡ descriptor_answer (first a).block.now (second a) (third a))
  pub sample_index_of : Ensures view-sample-index-of.ended (λ M 𝓤. view-sample-index-of.clauses {M = M} {𝓤 = 𝓤})
      (λ κs a z. z ≡ index_answer (first a).block.now (second a) (third a) (fourth a) (fifth a))
  pub sample_place_of : Ensures view-sample-place-of.ended (λ M 𝓤. view-sample-place-of.clauses {M = M} {𝓤 = 𝓤})
      (λ κs a z. z ≡ place_answer (first a).block.now (second a) (third a))
  pub constants_of : Ensures view-constants-of.ended (λ M 𝓤. view-constants-of.clauses {M = M} {𝓤 = 𝓤})
      (λ κs a z. lent z ≡ constants_part (lent (first a).block))
  pub extended_of : Ensures view-extended-of.ended (λ M 𝓤. view-extended-of.clauses {M = M} {𝓤 = 𝓤})
      (λ κs a z. lent z ≡ extended_part (lent (first a).block))
  pub external_of : Ensures view-external-of.ended (λ M 𝓤. view-external-of.clauses {M = M} {𝓤 = 𝓤})
      (λ κs a z. lent z ≡ external_part (lent (first a).block))
  pub skew_of : Ensures view-skew-of.ended (λ M 𝓤. view-skew-of.clauses {M = M} {𝓤 = 𝓤})
      (λ κs a z. lent z ≡ skew_part (lent (first a).block) (lent (second a)) (third a))
  pub skew_fault_of : Ensures view-skew-fault-of.ended (λ M 𝓤. view-skew-fault-of.clauses {M = M} {𝓤 = 𝓤})
      (λ κs a z. z ≡ skew_fault (first a).block.now (second a).now (third a))
  pub sample_time_of : Ensures view-sample-time-of.ended (λ M 𝓤. view-sample-time-of.clauses {M = M} {𝓤 = 𝓤})
      (λ κs a z. z ≡ time_answer (first a).block.now (second a).now (third a) (fourth a) (fifth a))
  pub open_of : Ensures view-open-of.ended (λ M 𝓤. view-open-of.clauses {M = M} {𝓤 = 𝓤})
      (λ κs a z. z ≡ opened (first a).block.now)
