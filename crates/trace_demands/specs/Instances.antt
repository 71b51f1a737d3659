-- The calls on a body of scans, and those on a body of traces with one header block lent at every call: both are calls on a body.
-- Assumes nothing.
use Rattle.std.specs.Prelude.{ℕ, List, eqb, Err, Ok, Result, ⊤}
use Rattle.basis.specs.Choice.{pick}
use Rattle.refusals.specs.Table.{stop_refusal}
use Rattle.scan.specs.declared.State as scan
use Rattle.stream.specs.Calls as stream
use Rattle.body.specs.Ends as body
use Rattle.trace.specs.declared.State as trace
use Rattle.trace.specs.Answers.{stop_of}
use Rattle.trace_stream.specs.Calls as traceStream
use Rattle.trace_body.specs.Calls as traceBody
use Rattle.trace_demands.specs.Bodies.{Calls}
use Rattle.refusals.specs.declared.Refusal.{Refusal}

abbrev pub scans : Calls scan.State
scans =
    record {
      portion = λ s bs room. (stream.portion s bs room).state;
      answered = λ s bs room. (stream.portion s bs room).answer;
      written = stream.portion_wrote;
      ended = λ s. (body.block_end s).state;
      end_answered = λ s. (body.block_end s).answer;
      closed = body.close;
    }

-- "Calls on a trace body lend the header block again"
abbrev pub traces : List ℕ → Calls trace.State
traces b =
    record {
      portion = λ s bs room. (traceStream.portion b s bs room).state;
      answered = λ s bs room. (traceStream.portion b s bs room).answer;
      written = traceStream.portion_wrote b;
      ended = λ s. (traceBody.block_end b s).state;
      end_answered = λ s. (traceBody.block_end b s).answer;
      closed = traceBody.close b;
    }

-- the stop that a state keeps: none where its number is 0
abbrev pub scan_stop : scan.State → Result ⊤ Refusal
scan_stop s = pick (eqb s.stop 0) (Ok tt) (Err (stop_refusal s.stop s.stopat))

abbrev pub trace_stop : List ℕ → trace.State → Result ⊤ Refusal
trace_stop b s = pick (eqb s.stop 0) (Ok tt) (Err (stop_of b s))
