-- What the first and the third demand say of the calls on a body, whatever its kind: once, over the states of its reader. Bodies of scans and bodies of traces are instances.
-- Assumes nothing.
use Rattle.std.specs.Prelude.{ℕ, ◌*◌, ◌<◌, ◌≡◌, Bool, true, false, List, [], ◌∷◌, ◌++◌, ℤ, length, take, drop, Err, Ok, Result, ⊤}
use Rattle.refusals.specs.declared.Refusal.{Refusal}
use Rattle.refusals.specs.declared.Refusal.TheVariants as refusal
use Rattle.runs.specs.Runs.{over}
use Rattle.stream.specs.declared.Answer.{Answer}
use Rattle.stream.specs.declared.Answer.TheVariants as answer
use Rattle.stream.specs.Calls.{samples_told, lacks_room}
use Rattle.body.specs.declared.Report.{Report}
use Rattle.agree.specs.Calls.{Call, put, end}

-- the calls on a body, from a state of its reader
pub record Calls (S : Type 0) : Type 0 where
  -- a portion, with how many numbers are lent for its samples: the state after it, its answer, and the numbers that it writes
  pub portion : S → List ℕ → ℕ → S
  pub answered : S → List ℕ → ℕ → Answer
  pub written : S → List ℕ → ℕ → List ℤ
  -- a block end: the state after it, and its answer
  pub ended : S → S
  pub end_answered : S → Answer
  -- the closing question
  pub closed : S → Result Report Refusal

-- a state, and the numbers written so far; and call after call
pub record Reading (S : Type 0) : Type 0 where
  pub state : S
  pub numbers : List ℤ

abbrev pub read_on : {S : Type 0} → Calls S → Reading S → List Call → Reading S
read_on k c [] = c
read_on k c (put bs room ∷ cs) = read_on k (record { state = k.portion c.state bs room; numbers = c.numbers ++ k.written c.state bs room }) cs
read_on k c (end ∷ cs) = read_on k (record { state = k.ended c.state; numbers = c.numbers }) cs

-- ---- 1
-- Nothing is changed and nothing is written: every call is answered a and the closing question is refused by r, whatever is lent, however many calls there are.
pub record Idle {S : Type 0} (k : Calls S) (s : S) (a : Answer) (r : Refusal) : Type 0 where
  pub portions : (bs : List ℕ) (room : ℕ) → k.portion s bs room ≡ s
  pub answers : (bs : List ℕ) (room : ℕ) → k.answered s bs room ≡ a
  pub writes : (bs : List ℕ) (room : ℕ) → k.written s bs room ≡ []
  pub ends : k.ended s ≡ s
  pub end_answers : k.end_answered s ≡ a
  pub closes : k.closed s ≡ Err r
  pub forever : (w : List ℤ) (cs : List Call) → read_on k (record { state = s; numbers = w }) cs ≡ record { state = s; numbers = w }

-- "writes nothing further, and gives the same refusal from then on"
abbrev pub SameStop : {S : Type 0} → Calls S → S → Refusal → Type 0
SameStop k s r = Idle k s (answer.Stopped 0 r) r

-- "A refused header .. writes nothing", and changes nothing and stops nothing: by its refusal
abbrev pub Refused : {S : Type 0} → Calls S → S → Refusal → Type 0
Refused k s r = Idle k s (answer.Refused r) r

-- "13 and 23 change nothing and stop nothing": 23, whatever the call
abbrev pub Unmoved : {S : Type 0} → Calls S → S → Type 0
Unmoved k s = Refused k s refusal.State

-- and 13, a portion that the output has no room for, leaves no trace
pub record NoTrace {S : Type 0} (k : Calls S) (s : S) (bs : List ℕ) (room : ℕ) : Type 0 where
  pub state : k.portion s bs room ≡ s
  pub answer : k.answered s bs room ≡ answer.Refused refusal.Room
  pub writes : k.written s bs room ≡ []

-- "A body that stops .. keeps the samples completed before it, writes nothing further, and gives the same refusal from then on", of a reader that has its fit
-- states and the stop that each of them keeps
pub record Stopping {S : Type 0} (k : Calls S) (fits : S → Bool) (kept : S → Result ⊤ Refusal) : Type 0 where
  -- a call that answers with a stop leaves a state that keeps it
  pub stays_after_portion : (s : S) (bs : List ℕ) (room n : ℕ) (r : Refusal) → k.answered s bs room ≡ answer.Stopped n r → SameStop k (k.portion s bs room) r
  pub stays_after_end : (s : S) (n : ℕ) (r : Refusal) → k.end_answered s ≡ answer.Stopped n r → SameStop k (k.ended s) r
  -- and so does every fit state that has a stop, wherever it comes from
  pub stopped : (s : S) (r : Refusal) → fits s ≡ true → kept s ≡ Err r → SameStop k s r
  -- a state that is not fit is refused by every call
  pub unfit : (s : S) → fits s ≡ false → Unmoved k s
  -- "A portion needs twice its length in output numbers"
  pub room : (s : S) (bs : List ℕ) (room : ℕ) → fits s ≡ true → kept s ≡ Ok tt → room < 2 * length bs → NoTrace k s bs room

-- ---- 3
-- "A portion needs twice its length in output numbers"
abbrev Enough : List ℕ → ℕ → Type 0
Enough bs room = lacks_room room (length bs) ≡ false

-- "Cut the bytes into portions anywhere, each lent enough output": two portions, lent m numbers and n, come to the state and write the
-- samples of the one portion that they make, lent l
pub record TwoAreOne {S : Type 0} (k : Calls S) (s : S) (a b : List ℕ) (m n l : ℕ) : Type 0 where
  pub state : k.portion (k.portion s a m) b n ≡ k.portion s (a ++ b) l
  pub samples : k.written s a m ++ k.written (k.portion s a m) b n ≡ k.written s (a ++ b) l

-- how many numbers those samples are, M and X each; and the caller's output after the portion
abbrev numbers_told : {S : Type 0} → Calls S → S → List ℕ → List ℤ → ℕ
numbers_told k s bs out = 2 * samples_told (k.answered s bs (length out))

abbrev pub output_of : {S : Type 0} → Calls S → S → List ℕ → List ℤ → List ℤ
output_of k s bs out = over (k.written s bs (length out)) out

-- "A portion answers how many samples it wrote": as many are at the front of the caller's output, and "Output past the samples written
-- is untouched"
pub record Output {S : Type 0} (k : Calls S) (s : S) (bs : List ℕ) (out : List ℤ) : Type 0 where
  pub front : take (numbers_told k s bs out) (output_of k s bs out) ≡ k.written s bs (length out)
  pub rest : drop (numbers_told k s bs out) (output_of k s bs out) ≡ drop (numbers_told k s bs out) out

-- whatever the state and the bytes
pub record Portions {S : Type 0} (k : Calls S) : Type 0 where
  -- two portions are one
  pub cuts : (s : S) (a b : List ℕ) (m n l : ℕ) → Enough a m → Enough b n → Enough (a ++ b) l → TwoAreOne k s a b m n l
  -- what a portion writes is what the caller then has
  pub seen : (s : S) (bs : List ℕ) (out : List ℤ) → Output k s bs out
