-- Calls on the streamed reader: what it does with them, and the body that they spell.
-- Assumes nothing.
use Rattle.std.specs.Prelude.{ℕ, ◌<◌, List, [], ◌∷◌, ◌++◌, ℤ, length}
use Rattle.basis.specs.Choice.{pick}
use Rattle.rules.specs.Tape.{Body}
use Rattle.scan.specs.declared.State.{State}
use Rattle.stream.specs.Calls as K
use Rattle.body.specs.Ends as N
use Rattle.body.specs.Open as O
use Rattle.agree.specs.Cuts.{Piece, portion, block_end, spelled}

-- a portion, with the length of the output that is lent for it; or a block end
pub data Call : Type 0 where
  put : List ℕ → ℕ → Call
  end : Call

-- every number of the list is a byte
abbrev pub Bytes : List ℕ → Type 0
Bytes [] = Unit {0}
Bytes (b ∷ bs) = (b < 256) × Bytes bs

-- so is every number of every portion
abbrev pub BytesIn : List Call → Type 0
BytesIn [] = Unit {0}
BytesIn (put bs room ∷ cs) = Bytes bs × BytesIn cs
BytesIn (end ∷ cs) = BytesIn cs

-- ---- what the reader does
-- its state, and the numbers that it has written, one portion's after another's
pub record Reading : Type 0 where
  pub state : State
  pub numbers : List ℤ

-- call after call
abbrev pub read_on : Reading → List Call → Reading
read_on c [] = c
read_on c (put bs room ∷ cs) = read_on (record { state = (K.portion c.state bs room).state; numbers = c.numbers ++ K.portion_wrote c.state bs room }) cs
read_on c (end ∷ cs) = read_on (record { state = (N.block_end c.state).state; numbers = c.numbers }) cs

-- from the opening on a header block
abbrev pub reading_of : List ℕ → List Call → Reading
reading_of b = read_on (record { state = (O.opened b).state; numbers = [] })

-- ---- what the rules say
-- the pieces that are taken: "a portion needs twice its length in output numbers", and one without room is no part of the body
abbrev pub taken : List Call → List Piece
taken [] = []
taken (put bs room ∷ cs) = pick (K.lacks_room room (length bs)) (taken cs) (portion bs ∷ taken cs)
taken (end ∷ cs) = block_end ∷ taken cs

-- the body that the calls spell
abbrev pub body_of : List Call → Body
body_of cs = spelled (taken cs)
