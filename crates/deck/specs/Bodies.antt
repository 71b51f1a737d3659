-- The body's answers laid flat.
-- Assumes nothing.
use Rattle.std.specs.Prelude.{ℕ, Err, None, Ok, Result, ⊤, is_some, unwrap_or}
use Rattle.std.specs.Result.{result_unwrap_or}
use Rattle.refusals.specs.declared.Told.{Told}
use Rattle.body.specs.declared.Body.{Body}
use Rattle.body.specs.declared.Body.TheVariants.{Scans, Traces}
use Rattle.body.specs.declared.Opened.{Opened}
use Rattle.stream.specs.declared.Answer.{Answer}
use Rattle.stream.specs.declared.Answer.TheVariants.{GoingOn, Stopped, Refused}
use Rattle.stream.specs.declared.Gave.{Gave}
use Rattle.stream.specs.Calls.{samples_told}
use Rattle.body.specs.declared.Report.{Report}
use Rattle.scan.specs.declared.State.{State}
use Rattle.trace.specs.declared.State as trace
use Rattle.deck.specs.declared.bodies.SegdOpened.{SegdOpened}
use Rattle.deck.specs.declared.bodies.SegdGave.{SegdGave}
use Rattle.deck.specs.declared.bodies.SegdClosing.{SegdClosing}
use Rattle.deck.specs.Flat.{flag, flat_fault}
use Rattle.refusals.specs.declared.Refusal.{Refusal}

-- 1: a body of scans; 2: one of traces; 0: none
abbrev pub kind_of : Result Body Refusal → ℕ
kind_of (Ok Scans) = 1
kind_of (Ok Traces) = 2
kind_of (Err r) = 0

-- an opening, with its state, and the state of a body of traces
abbrev pub flat_opened : Opened → trace.State → SegdOpened
flat_opened o traces = record { refusal = flat_fault o.answer; kind = kind_of o.answer; state = o.state; traces = traces }

-- 0 going on, 1 stopped, 2 refused
abbrev pub outcome_of : Answer → ℕ
outcome_of (GoingOn n) = 0
outcome_of (Stopped n r) = 1
outcome_of (Refused r) = 2

-- why the body does not go on, if it does not
abbrev pub answer_fault : Answer → Result ⊤ Refusal
answer_fault (GoingOn n) = Ok tt
answer_fault (Stopped n r) = Err r
answer_fault (Refused r) = Err r

-- a portion or block end, with its state
abbrev pub flat_gave : Gave State → SegdGave
flat_gave g =
    record { state = g.state; outcome = outcome_of g.answer; refusal = flat_fault (answer_fault g.answer); samples = samples_told g.answer }

-- a report of nothing
abbrev pub nothing : Report
nothing = record { scans = 0; samples = 0; off = 0; last_type = 0; itb = None; window = None }

-- a report, with why there is none if there is none
abbrev pub flat_report : Told → Report → SegdClosing
flat_report why p =
    record {
      refusal = why;
      scans = p.scans;
      off = p.off;
      samples = p.samples;
      last_type = p.last_type;
      itb_known = flag (is_some p.itb);
      itb = unwrap_or p.itb 0;
      window_known = flag (is_some p.window);
      window = unwrap_or p.window 0;
    }

-- a closing, with its report, or with a report of nothing where it is refused
abbrev pub flat_closing : Result Report Refusal → SegdClosing
flat_closing c = flat_report (flat_fault c) (result_unwrap_or c nothing)
