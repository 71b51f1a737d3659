-- The third demand for trace bodies: what the streamed reader does is what the rules say of the uncut body, however it is cut,
-- "with the header block of the opening lent unchanged at every call".
-- Assumes nothing.
use Rattle.std.specs.Prelude.{ℕ, ◌≤◌, ◌≡◌, true, List, [], Err, Ok}
use Rattle.refusals.specs.declared.Refusal.{Refusal}
use Rattle.general.specs.General.{code_of}
use Rattle.header.specs.Faults.{header_fault}
use Rattle.trace_rules.specs.Outcome.{numbers_of, closing}
use Rattle.trace.specs.declared.State.{State}
use Rattle.trace.specs.Fit.{fitb}
use Rattle.stream.specs.Calls as C
use Rattle.trace_stream.specs.Calls as K
use Rattle.trace_body.specs.Calls as L
use Rattle.agree.specs.Calls.{Call, put, end, Bytes, BytesIn, body_of}
use Rattle.agree.specs.Answers.{closed_of}
use Rattle.trace_agree.specs.Calls.{reading_of}
use Rattle.trace_agree.specs.Answers.{answer_to}

-- after the calls cs on the body of the header block b
pub record Agrees (b : List ℕ) (cs : List Call) : Type 0 where
  -- every state reached is fit for the block
  pub fit : fitb b (reading_of b cs).state ≡ true
  -- the samples written are those completed before the stop, or the body's end
  pub samples : (reading_of b cs).numbers ≡ numbers_of b (body_of cs)
  -- what a next portion, a block end or the closing question is answered
  pub portions : (bs : List ℕ) (room : ℕ) → Bytes bs → (K.portion b (reading_of b cs).state bs room).answer ≡ answer_to b cs (put bs room)
  pub ends : (L.block_end b (reading_of b cs).state).answer ≡ answer_to b cs end
  pub closes : L.close b (reading_of b cs).state ≡ closed_of (closing b (body_of cs))

-- from every header block of an 80xx code that is accepted, and whatever the calls
abbrev pub Agreement : Type 0
Agreement = (b : List ℕ) → header_fault b ≡ Ok tt → 0x8000 ≤ code_of b → (cs : List Call) → BytesIn cs → Agrees b cs

-- A header block that is turned away: its refusal answers every call, whatever the state, and nothing is changed or written.
pub record Refuses (b : List ℕ) (r : Refusal) : Type 0 where
  pub portions : (s : State) (bs : List ℕ) (room : ℕ) → K.portion b s bs room ≡ C.unchanged s r
  pub writes : (s : State) (bs : List ℕ) (room : ℕ) → K.portion_wrote b s bs room ≡ []
  pub ends : (s : State) → L.block_end b s ≡ C.unchanged s r
  pub closes : (s : State) → L.close b s ≡ Err r

abbrev pub TurnedAway : Type 0
TurnedAway = (b : List ℕ) (r : Refusal) → header_fault b ≡ Err r → Refuses b r
