-- Whose a sample of a trace is. Traces, samples, scans and subscans count from 0; scan types, sets and channels from 1 in an answer.
-- Assumes nothing.
use Rattle.std.specs.Prelude.{ℕ, ◌+◌, ◌/◌, ◌%◌, Bool, not, List, ltb, Err, Ok, Result, ⊤}
use Rattle.basis.specs.Choice.{◌and◌}
use Rattle.refusals.specs.declared.Refusal.TheVariants.{Index}
use Rattle.refusals.specs.Order.{when, or_else}
use Rattle.codes.specs.Codes.{demultiplexed}
use Rattle.general.specs.General.{code_of}
use Rattle.header.specs.Faults.{header_fault}
use Rattle.turns.specs.declared.Turn.{Turn}
use Rattle.turns.specs.declared.Placed.{Placed}
use Rattle.turns.specs.Turns.{trace_count, turn_at, subscans_at}
use Rattle.refusals.specs.declared.Refusal.{Refusal}

-- the record is demultiplexed, and has trace j
unfoldable pub has_trace : List ℕ → ℕ → Bool
has_trace b j = demultiplexed (code_of b) and ltb j (trace_count b)

-- "Questions: header, 11"
unfoldable pub trace_fault : List ℕ → ℕ → Result ⊤ Refusal
trace_fault b j = or_else (header_fault b) (when (not (has_trace b j)) Index)

-- whose a sample is, by its numbers
abbrev pub owner : ℕ → ℕ → ℕ → ℕ → ℕ → Placed
owner t s c n u = record { scan_type = t; set = s; channel = c; scan = n; subscan = u }

-- sample i of a turn's trace: a channel's samples stand scan by scan, 2^(S/C) in each, one for each subscan
unfoldable pub sample_of : List ℕ → Turn → ℕ → Placed
sample_of b u i = owner (u.scan_type + 1) (u.set + 1) (u.channel + 1) (i / subscans_at b u) (i % subscans_at b u)

-- whose it is, or why it is nobody's
abbrev pub placed_after : Result ⊤ Refusal → Placed → Result Placed Refusal
placed_after (Ok tt) p = Ok p
placed_after (Err r) p = Err r

-- whose sample i of trace j is
unfoldable pub placed_at : List ℕ → ℕ → ℕ → Result Placed Refusal
placed_at b j i = placed_after (trace_fault b j) (sample_of b (turn_at b j) i)
