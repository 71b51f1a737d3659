-- What the steps over a portion leave: the progress, the three buffers, and where the lines end in theirs.
-- Assumes nothing.
use Rattle.std.specs.Prelude.{◌≡◌, ℕ, List, [], ℤ}
use Rattle.framing.specs.declared.Met.{Met}
use Rattle.framing.specs.declared.Met.TheVariants.{Mark}
use Rattle.listing.specs.Lent.{line_in, line_end}
use Rattle.lister.specs.declared.Progress.{Progress}
use Rattle.lister.specs.declared.Run.{Run}
use Rattle.lister.specs.Turn.{said_at, text_by, heard_progress, heard_header, heard_numbers, turn_progress, turn_header, turn_numbers, turn_text}

-- a progress and two buffers' bytes, and a text that goes where the lines end, in the three buffers that are lent
pub record Came (old : Run) (progress : Progress) (header : List ℕ) (numbers : List ℤ) (text : List ℕ) (new : Run) : Type 0 where
  pub same_header : new.header.ghost_name ≡ old.header.ghost_name
  pub same_numbers : new.numbers.ghost_name ≡ old.numbers.ghost_name
  pub same_lines : new.lines.ghost_name ≡ old.lines.ghost_name
  pub progress_is : new.progress ≡ progress
  pub header_is : new.header.now ≡ header
  pub numbers_is : new.numbers.now ≡ numbers
  pub lines_is : new.lines.now ≡ line_in old.lines.now old.end text
  pub end_is : new.end ≡ line_end old.lines.now old.end text

-- after an answer of `next` that passed some bytes
abbrev pub Heard : Run → Met → List ℕ → Run → Type 0
Heard r met bytes new =
    Came r (heard_progress r.progress met bytes r.header.now r.numbers.now) (heard_header r.progress.file met bytes r.header.now)
    (heard_numbers r.progress.file met bytes r.header.now r.numbers.now) (text_by (said_at r.progress.file met) r.progress.count) new

-- after a mark
abbrev pub Marked : Run → Run → Type 0
Marked r new = Heard r Mark [] new

-- after one step from a place of a portion
abbrev pub Turned : Run → List ℕ → ℕ → Run → Type 0
Turned r bytes at new =
    Came r (turn_progress r.progress bytes at r.header.now r.numbers.now) (turn_header r.progress bytes at r.header.now)
    (turn_numbers r.progress bytes at r.header.now r.numbers.now) (turn_text r.progress bytes at) new
