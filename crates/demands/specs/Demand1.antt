-- The first demand: whatever is handed in, every call ends with its answer or with the refusal that the description names. That a
-- function meets its contract is proved where the function stands; here stand which answer that is, and what follows for all of them.
-- Assumes nothing.
use Rattle.std.specs.Prelude.{ℕ, ◌≡◌, true, false, List, [], ◌∷◌, Err}
use Rattle.refusals.specs.declared.Refusal.{Refusal}
use Rattle.refusals.specs.Table.{said, told, stop_refusal}
use Rattle.header.specs.Answers.{header_answer}
use Rattle.scan.specs.Fit.{stopb, fitb}
use Rattle.body.specs.Open.{opened}
use Rattle.agree.specs.Agreement.{TurnedAway, NoScans}
use Rattle.trace_demands.specs.Bodies.{Stopping}
use Rattle.trace_demands.specs.Instances.{scans, scan_stop}
use Rattle.trace_demands.specs.TraceDemand1.{TraceDemand1}
use Rattle.demands.specs.Numbers.{numbered, in_four}
use Rattle.demands.specs.Unique.{Unique}
use Rattle.demands.specs.Held.{UniqueHeld}
use Rattle.demands.specs.Bound.{Bound}
use Rattle.demands.specs.BoundHeld.{BoundHeld}
use Rattle.demands.specs.Each.{UniqueOfEach, BoundOfEach}

pub record Demand1 : Type 2 where
  -- "the contract leaves one possible answer and one possible content of each lent slice", refusals included
  pub one : Unique
  -- so do the contracts of the functions over a header that is carried with its bytes, which are read at every model of the logic
  pub held : UniqueHeld
  -- and those of the functions that are written once for many types, at each of them
  pub each : UniqueOfEach
  -- that answer is the definition's, of which the demands speak
  pub bound : Bound
  pub bound_held : BoundHeld
  pub bound_each : BoundOfEach
  -- "Each answers its number and the values its row names"
  pub numbers : (r : Refusal) → said r ≡ numbered r
  pub four : (r : Refusal) → told r ≡ in_four (numbered r)
  -- "keeps the samples completed before it, writes nothing further, and gives the same refusal from then on": a call that answers with a stop leaves a state that keeps it, and
  -- so does every fit state that has one; "13 and 23 change nothing and stop nothing". Of a body of scans, as of any
  pub stopping : Stopping scans fitb scan_stop
  -- an unfit state is that of a refused opening, or of a demultiplexed record's
  pub unopened : TurnedAway
  pub unscanned : NoScans
  pub shut : (b : List ℕ) (r : Refusal) → header_answer b ≡ Err r → fitb (opened b).state ≡ false
  -- a stop that a fit state keeps is told by its row's number, with its place
  pub told : (n place : ℕ) → stopb n ≡ true → (n ≡ 0 → ⊥) → said (stop_refusal n place) ≡ record { number = n; values = place ∷ [] }
  -- the same of a body of traces
  pub traces : TraceDemand1
