-- For every function over a struct that holds a reference: its contract, as the source has it, leaves one answer, and where it hands a
-- part out the very part. It is said of the contract's own clauses, at every model of the logic.
-- Assumes nothing.
use Rattle.std.specs.Prelude.{◌≡◌}
use seplogic.Ra.Ura.{Ura}
use base.Logic.{SProp, ent, sep}
use prog.Memory.{Memory}
use prog.Routine.{Routine}
use types.Logic.{Logic}
use contract.Lifetimes.{Lfts}
use contract.Monad.{Fun, fact}
use borrow.Fn.World.{World}
use denote.Triple.Clauses.{Ended, AtExit, Clauses}
use denote.Triple.Entry.{Args, Res}
use Rattle.view.specs.contracts.Carried.carry as view-carry
use Rattle.view.specs.contracts.Carried.answer as view-answer-of
use Rattle.view.specs.contracts.Carried.descriptor as view-descriptor-of
use Rattle.view.specs.contracts.Carried.sample_index as view-sample-index-of
use Rattle.view.specs.contracts.Carried.sample_place as view-sample-place-of
use Rattle.view.specs.contracts.Carried.constants as view-constants-of
use Rattle.view.specs.contracts.Carried.extended as view-extended-of
use Rattle.view.specs.contracts.Carried.external as view-external-of
use Rattle.view.specs.contracts.Carried.skew as view-skew-of
use Rattle.view.specs.contracts.Carried.skew_fault as view-skew-fault-of
use Rattle.view.specs.contracts.Carried.sample_time as view-sample-time-of
use Rattle.view.specs.contracts.Carried.open as view-open-of
use Rattle.demands.specs.One.{same_part}

-- a contract at every model
abbrev pub Claimed : Ended → Type 2
Claimed F = (M : Type 1) (𝓤 : Ura M) (𝓛 : Logic 𝓤) → (Memory → SProp 𝓤) → (Routine → Fun 𝓤) → Clauses 𝓤 F

-- when two answers count as one
abbrev pub Likeness : Ended → Type 1
Likeness F = (κs : Lfts F.signature.lifetimes) → Res F.signature κs → Res F.signature κs → Type 0

-- Any two answers that meet it for the same arguments are alike. A `World` is a model of the logic, `ent` is entailment in it, `sep`
-- holds both of its sides apart, and `fact` is a plain statement: what the contract ensures of the one and of the other entails that.
abbrev pub Alike : (F : Ended) → Claimed F → Likeness F → Type 2
Alike F claimed alike =
    (w : World) (κs : Lfts F.signature.lifetimes) (a : Args F.signature κs) →
    let c = claimed _ w.𝓤 w.𝓛 w.𝓜.mem w.𝓡.returns κs a in
    (g : c.ghost) (z z' : Res F.signature κs) (e e' : AtExit F κs) →
    ent w.𝓤 (sep w.𝓤 (c.ensures g z e) (c.ensures g z' e')) (fact w.𝓤 (alike κs z z'))

-- one answer
abbrev pub OneHeld : (F : Ended) → Claimed F → Type 2
OneHeld F claimed = Alike F claimed (λ κs z z'. z ≡ z')

pub record UniqueHeld : Type 2 where
  pub carry : OneHeld view-carry.ended (λ M 𝓤. view-carry.clauses {M = M} {𝓤 = 𝓤})
  pub answer_of : OneHeld view-answer-of.ended (λ M 𝓤. view-answer-of.clauses {M = M} {𝓤 = 𝓤})
  pub descriptor_of : OneHeld view-descriptor-of.ended (λ M 𝓤. view-descriptor-of.clauses {M = M} {𝓤 = 𝓤})
  pub sample_index_of : OneHeld view-sample-index-of.ended (λ M 𝓤. view-sample-index-of.clauses {M = M} {𝓤 = 𝓤})
  pub sample_place_of : OneHeld view-sample-place-of.ended (λ M 𝓤. view-sample-place-of.clauses {M = M} {𝓤 = 𝓤})
  pub constants_of : Alike view-constants-of.ended (λ M 𝓤. view-constants-of.clauses {M = M} {𝓤 = 𝓤}) (λ κs. same_part)
  pub extended_of : Alike view-extended-of.ended (λ M 𝓤. view-extended-of.clauses {M = M} {𝓤 = 𝓤}) (λ κs. same_part)
  pub external_of : Alike view-external-of.ended (λ M 𝓤. view-external-of.clauses {M = M} {𝓤 = 𝓤}) (λ κs. same_part)
  pub skew_of : Alike view-skew-of.ended (λ M 𝓤. view-skew-of.clauses {M = M} {𝓤 = 𝓤}) (λ κs. same_part)
  pub skew_fault_of : OneHeld view-skew-fault-of.ended (λ M 𝓤. view-skew-fault-of.clauses {M = M} {𝓤 = 𝓤})
  pub sample_time_of : OneHeld view-sample-time-of.ended (λ M 𝓤. view-sample-time-of.clauses {M = M} {𝓤 = 𝓤})
  pub open_of : OneHeld view-open-of.ended (λ M 𝓤. view-open-of.clauses {M = M} {𝓤 = 𝓤})
