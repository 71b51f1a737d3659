-- The three demands hold of trace bodies.
-- Assumes nothing.
use Rattle.general.specs.General.{code_of}
use Rattle.header.proofs.Accepted.{sizes}
use Rattle.trace_rules.proofs.Laws.{stop_first}
use Rattle.trace_agree.proofs.Agreement.{agreement, turned_away}
use Rattle.trace_demands.specs.TraceDemand1.{TraceDemand1}
use Rattle.trace_demands.specs.TraceDemand2.{TraceDemand2}
use Rattle.trace_demands.specs.TraceDemand3.{TraceDemand3}
use Rattle.trace_demands.proofs.TraceStops.{refuses, stopping}
use Rattle.trace_demands.proofs.TraceTold.{stop_told, state_told, shut, no_traces}
use Rattle.trace_demands.proofs.TracePortions.{portions}
use Rattle.trace_demands.proofs.Orders.{in_turn}
use Rattle.trace_demands.proofs.Placings.{placing}
use Rattle.trace_demands.proofs.Headers.{headed}
use Rattle.trace_demands.proofs.Words.{done, due, trace_words}
use Rattle.trace_demands.proofs.Samples.{in_order, owed}
use Rattle.trace_demands.proofs.Totals.{whole, seen_so, ended_so}

pub trace_demand1 : TraceDemand1
trace_demand1 =
    record {
      stopping = stopping;
      refused = refuses;
      turned_away = turned_away;
      shut = shut;
      no_traces = no_traces;
      kept = λ b s f z. (state_told b s f z).0;
      number = λ b s f z. (state_told b s f z).1;
      told = stop_told;
    }

pub trace_demand2 : TraceDemand2
trace_demand2 = record { turns = in_turn; places = placing; headers = headed; words = λ b e. trace_words (code_of b) (sizes b e) }

pub trace_demand3 : TraceDemand3
trace_demand3 =
    record {
      agrees = agreement;
      portions = portions;
      owed = owed;
      order = in_order;
      completed = λ b d e k i l. done (code_of b) (sizes b e) _ i l;
      given = λ b d e k i l. due (code_of b) (sizes b e) _ i l;
      whole = whole;
      seen = seen_so;
      ended = ended_so;
      first = stop_first;
    }
