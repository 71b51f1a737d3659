-- The answers of a trace body laid flat.
-- Assumes nothing.
use Rattle.std.specs.Prelude.{Result}
use Rattle.std.specs.Result.{result_unwrap_or}
use Rattle.refusals.specs.declared.Told.{Told}
use Rattle.stream.specs.Calls.{samples_told}
use Rattle.turns.specs.declared.Placed.{Placed}
use Rattle.stream.specs.declared.Gave.{Gave}
use Rattle.trace.specs.declared.State.{State}
use Rattle.deck.specs.declared.traces.SegdTraceGave.{SegdTraceGave}
use Rattle.deck.specs.declared.traces.SegdTracePlace.{SegdTracePlace}
use Rattle.deck.specs.Flat.{flat_fault}
use Rattle.deck.specs.Bodies.{outcome_of, answer_fault}
use Rattle.refusals.specs.declared.Refusal.{Refusal}

-- a portion or block end, with its state
abbrev pub flat_trace_gave : Gave State → SegdTraceGave
flat_trace_gave g =
    record { state = g.state; outcome = outcome_of g.answer; refusal = flat_fault (answer_fault g.answer); samples = samples_told g.answer }

-- nobody's: every number 0
abbrev pub nobody : Placed
nobody = record { scan_type = 0; set = 0; channel = 0; scan = 0; subscan = 0 }

-- whose a sample is, or the refusal and nobody's
abbrev pub flat_trace_place_by : Told → Placed → SegdTracePlace
flat_trace_place_by why p =
    record { refusal = why; scan_type = p.scan_type; set = p.set; channel = p.channel; scan = p.scan; subscan = p.subscan }

abbrev pub flat_trace_place : Result Placed Refusal → SegdTracePlace
flat_trace_place a = flat_trace_place_by (flat_fault a) (result_unwrap_or a nobody)
