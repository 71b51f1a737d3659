-- What the rules of the body that the calls spell make of each answer.
-- Assumes nothing.
use Rattle.std.specs.Prelude.{ℕ, ◌-◌, List, [], ◌∷◌, ◌++◌, length, Err, Ok, Result, ⊤}
use Rattle.basis.specs.Choice.{pick}
use Rattle.refusals.specs.declared.Refusal.TheVariants.{Room}
use Rattle.rules.specs.Scans.{Shape}
use Rattle.rules.specs.Outcome.{Closing, refused, report, stop_of, done_of}
use Rattle.stream.specs.declared.Answer.{Answer}
use Rattle.stream.specs.declared.Answer.TheVariants.{GoingOn, Stopped, Refused}
use Rattle.body.specs.declared.Report as B
use Rattle.stream.specs.Calls.{lacks_room}
use Rattle.agree.specs.Calls.{Call, put, end, body_of}
use Rattle.refusals.specs.declared.Refusal.{Refusal}

-- of a call that is taken, from the stop before it, the stop after it, and how many samples come between: an earlier stop, with none written; or so many
abbrev pub answer_from : Result ⊤ Refusal → Result ⊤ Refusal → ℕ → Answer
answer_from (Err r) later n = Stopped 0 r
answer_from (Ok tt) (Err r) n = Stopped n r
answer_from (Ok tt) (Ok u) n = GoingOn n

-- of a portion without room: an earlier stop, then ROOM
abbrev pub room_answer : Result ⊤ Refusal → Answer
room_answer (Err r) = Stopped 0 r
room_answer (Ok tt) = Refused Room

-- the answer to a call c that is taken, after the calls cs
abbrev pub taken_answer : Shape → List Call → Call → Answer
taken_answer sh cs c =
    answer_from (stop_of sh (body_of cs)) (stop_of sh (body_of (cs ++ (c ∷ [])))) (done_of sh (body_of (cs ++ (c ∷ []))) - done_of sh (body_of cs))

-- the answer to a call c after the calls cs
abbrev pub answer_to : Shape → List Call → Call → Answer
answer_to sh cs (put bs room) = pick (lacks_room room (length bs)) (room_answer (stop_of sh (body_of cs))) (taken_answer sh cs (put bs room))
answer_to sh cs end = taken_answer sh cs end

-- the closing answer, as the reader gives it
abbrev pub closed_of : Closing → Result B.Report Refusal
closed_of (refused r) = Err r
closed_of (report t) =
    Ok (record { scans = t.scans; samples = t.samples; off = t.off; last_type = t.last_type; itb = t.itb; window = t.window })
