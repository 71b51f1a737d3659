-- The same for a function that is written once for many types: at each of them its contract leaves one answer, and one content of what is lent.
-- Assumes nothing.
use Rattle.runs.proofs.plain_words.Reads as runs-plain-words
use Rattle.stream.proofs.unchanged.Reads as stream-unchanged
use Rattle.stream.proofs.byte.still.Reads as stream-still
use Rattle.scan.specs.Step as Step
use Rattle.stream.specs.Calls as Calls
use Rattle.demands.specs.One.{OneAnswer, OneContent}
use Rattle.demands.specs.Bound.{Is, first, second}

pub record UniqueOfEach : Type 2 where
  -- the words of a code that stand alone: 0024, 0044 and 0048 among them
  pub plain_words : (n : _) (P : _) (f : _) (l : _) (t : _) (d : _) → OneAnswer (runs-plain-words.Post n P f l t d)
  pub plain_words_content : (n : _) (P : _) (f : _) (l : _) (t : _) (d : _) → OneContent (runs-plain-words.Post n P f l t d) (λ κ e. e.1.0.now)
  -- of the state of either reader
  pub unchanged : (S : _) (l : _) → OneAnswer (stream-unchanged.Post S l)
  pub still : (S : _) (l : _) → OneAnswer (stream-still.Post S l)

-- and that answer is the definition's
pub record BoundOfEach : Type 2 where
  pub unchanged : (S : _) (l : _) → Is (stream-unchanged.Post S l) (λ κ a. Calls.unchanged (first a) (second a))
  pub still : (S : _) (l : _) → Is (stream-still.Post S l) (λ κ a. Step.still (first a))
