-- What is listed of a whole file, by its items: no state, portion or buffer.
-- Assumes nothing.
use Rattle.std.specs.Prelude.{ℕ, List, [], leb, length, Err, Ok, Result}
use Rattle.basis.specs.Choice.{pick}
use Rattle.refusals.specs.declared.Refusal.TheVariants as R
use Rattle.codes.specs.Codes.{demultiplexed}
use Rattle.header.specs.Answers.{header_answer}
use Rattle.rules.specs.Tape.{Body}
use Rattle.rules.specs.Scans.{shape_of}
use Rattle.rules.specs.Outcome.{Closing, report, refused, closing}
use Rattle.trace_rules.specs.Outcome as T
use Rattle.framing.specs.Cuts.{joined}
use Rattle.listing.specs.declared.Listed.{Listed}
use Rattle.listing.specs.declared.TurnedAway.{TurnedAway}
use Rattle.listing.specs.Lines.{listed, turned_away}
use Rattle.header.specs.declared.Header.{Header}
use Rattle.refusals.specs.declared.Refusal.{Refusal}

-- the body of some blocks, each with its end
abbrev pub body_in : List (List ℕ) → Body
body_in blocks = record { blocks = blocks; tail = [] }

-- "`file`, `format`, `scans`, `samples`, `off` with their values, or `refused R at P`", where P may be the body's length
abbrev pub reported : ℕ → ℕ → ℕ → Closing → Result Listed TurnedAway
reported file format bytes (report t) = listed file format t.scans t.samples t.off
reported file format bytes (refused r) = turned_away r bytes

-- what a body comes to under an accepted header of that code: a body of traces, or of scans
abbrev pub closing_of : ℕ → List ℕ → Body → Closing
closing_of code header body = pick (demultiplexed code) (T.closing header body) (closing (shape_of header) body)

-- by the header's answer, and by the rules of the uncut body
abbrev pub by_header : Result Header Refusal → List ℕ → List (List ℕ) → Result Listed TurnedAway
by_header (Err r) header blocks = turned_away r 0
by_header (Ok h) header blocks =
    reported h.file h.code (length (joined blocks)) (closing_of h.code header (body_in blocks))

-- "In a file the first item is the header, the rest are blocks"; LARGE for a header item above cap bytes
abbrev pub outcome_of : ℕ → List ℕ → List (List ℕ) → Result Listed TurnedAway
outcome_of cap header blocks = pick (leb (length header) cap) (by_header (header_answer header) header blocks) (turned_away R.Large 0)
