-- The second demand for trace bodies: which scan type, set and channel each trace is, what its header says, and where its samples stand. What a word says is Demand2's, by the one
-- table of codes.
-- Assumes nothing.
use Rattle.std.specs.Prelude.{ℕ, ◌≡◌, List, Ok}
use Rattle.general.specs.General.{code_of}
use Rattle.header.specs.Faults.{header_fault}
use Rattle.trace_demands.specs.Order.{InTurn}
use Rattle.trace_demands.specs.TracePlaces.{Placing}
use Rattle.trace_demands.specs.TraceHeaders.{Headed}
use Rattle.trace_demands.specs.TraceWords.{TraceWords}

pub record TraceDemand2 : Type 0 where
  -- "in order of scan type, set, channel": turn and trace number are each the other's inverse on every block, and reach every channel once
  pub turns : (b : List ℕ) → InTurn b
  -- "the place of each sample by scan type, channel set, channel and subscan (and the sample at each place)"
  pub places : (b : List ℕ) → Placing b
  -- "a 20-byte trace header as in the paper", each field
  pub headers : Headed
  -- "then samples of one channel": each at its own bytes of the trace
  pub words : (b : List ℕ) → header_fault b ≡ Ok tt → TraceWords (code_of b)
