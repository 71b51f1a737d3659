-- Calls on the streamed reader of traces, the same header block lent at every one: what it does with them.
-- Assumes nothing.
use Rattle.std.specs.Prelude.{ℕ, List, [], ◌∷◌, ◌++◌, ℤ}
use Rattle.trace.specs.declared.State.{State}
use Rattle.trace_stream.specs.Calls as K
use Rattle.trace_body.specs.Calls as L
use Rattle.trace_body.specs.Open as O
use Rattle.agree.specs.Calls.{Call, put, end}

-- its state, and the numbers that it has written, one portion's after another's
pub record Reading : Type 0 where
  pub state : State
  pub numbers : List ℤ

-- call after call
abbrev pub read_on : List ℕ → Reading → List Call → Reading
read_on b c [] = c
read_on b c (put bs room ∷ cs) = read_on b (record { state = (K.portion b c.state bs room).state; numbers = c.numbers ++ K.portion_wrote b c.state bs room }) cs
read_on b c (end ∷ cs) = read_on b (record { state = (L.block_end b c.state).state; numbers = c.numbers }) cs

-- from the opening on the header block
abbrev pub reading_of : List ℕ → List Call → Reading
reading_of b = read_on b (record { state = O.opened b; numbers = [] })
