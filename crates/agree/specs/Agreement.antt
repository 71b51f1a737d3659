-- The third demand: what the streamed reader does is what the rules say of the uncut body, however it is cut.
-- Assumes nothing.
use Rattle.std.specs.Prelude.{ℕ, ◌<◌, ◌≤◌, ◌≡◌, true, List, [], Err, Ok, Result}
use Rattle.refusals.specs.declared.Refusal.{Refusal}
use Rattle.refusals.specs.declared.Refusal.TheVariants.{State}
use Rattle.general.specs.General.{code_of}
use Rattle.header.specs.declared.Header.{Header}
use Rattle.header.specs.Answers.{header_answer}
use Rattle.rules.specs.Scans.{shape_of}
use Rattle.rules.specs.Outcome.{numbers_of, closing}
use Rattle.scan.specs.Fit.{fitb}
use Rattle.body.specs.declared.Body.{Body}
use Rattle.body.specs.declared.Body.TheVariants.{Traces}
use Rattle.stream.specs.Calls as K
use Rattle.body.specs.Ends as N
use Rattle.body.specs.Open as O
use Rattle.agree.specs.Calls.{Call, put, end, Bytes, BytesIn, reading_of, body_of}
use Rattle.agree.specs.Answers.{answer_to, closed_of}

-- after the calls cs on the body of the header block b
pub record Agrees (b : List ℕ) (cs : List Call) : Type 0 where
  -- every state reached is fit
  pub fit : fitb (reading_of b cs).state ≡ true
  -- the samples written are those completed before the stop, or the body's end
  pub samples : (reading_of b cs).numbers ≡ numbers_of (shape_of b) (body_of cs)
  -- what a next portion, a block end or the closing question is answered
  pub portions : (bs : List ℕ) (room : ℕ) → Bytes bs → (K.portion (reading_of b cs).state bs room).answer ≡ answer_to (shape_of b) cs (put bs room)
  pub ends : (N.block_end (reading_of b cs).state).answer ≡ answer_to (shape_of b) cs end
  pub closes : N.close (reading_of b cs).state ≡ closed_of (closing (shape_of b) (body_of cs))

-- from every header block of a multiplexed code that is accepted, and whatever the calls
abbrev pub Agreement : Type 0
Agreement = (b : List ℕ) → Bytes b → (h : Header) → header_answer b ≡ Ok h → code_of b < 0x8000 → (cs : List Call) → BytesIn cs → Agrees b cs

-- An opening that answers a gives an all-zero state; each call on it is 23, and changes and writes nothing.
pub record Unopened (b : List ℕ) (a : Result Body Refusal) : Type 0 where
  pub opening : O.opened b ≡ record { state = O.unfit; answer = a }
  pub portions : (bs : List ℕ) (room : ℕ) → K.portion O.unfit bs room ≡ K.unchanged O.unfit State
  pub writes : (bs : List ℕ) (room : ℕ) → K.portion_wrote O.unfit bs room ≡ []
  pub ends : N.block_end O.unfit ≡ K.unchanged O.unfit State
  pub closes : N.close O.unfit ≡ Err State

-- so it is on every header block that is refused
abbrev pub TurnedAway : Type 0
TurnedAway = (b : List ℕ) (r : Refusal) → header_answer b ≡ Err r → Unopened b (Err r)

-- and on every accepted one of a demultiplexed code, which has no body of scans
abbrev pub NoScans : Type 0
NoScans = (b : List ℕ) (h : Header) → header_answer b ≡ Ok h → 0x8000 ≤ code_of b → Unopened b (Ok Traces)
