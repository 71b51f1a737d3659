-- A run of whole words within one scan: where it may be taken at once, and what it then comes to.
-- Cited by private functions alone. Assumes nothing.
use Rattle.std.specs.Prelude.{◌≡◌, ℕ, zero, suc, ◌+◌, ◌-◌, ◌*◌, ◌/◌, ◌%◌, ◌<◌, ◌≤◌, List, [], ◌∷◌, ◌++◌, length, take, drop, ℤ, ◌==◌, ◌≢◌, slice_index}
use Rattle.basis.specs.Choice.{pick}
use Rattle.basis.specs.Digits.{written, byte_in}
use Rattle.codes.specs.Codes.{group_of}
use Rattle.runs.specs.Runs.{over}
use Rattle.runs.specs.Words.{words_in, grouped_in, plain_value, grouped_value, rest_value}
use Rattle.words.specs.declared.Value.{Value}
use Rattle.words.specs.Tables.{table_of}
use Rattle.scan.specs.declared.State.{State}
use Rattle.scan.specs.Fit.{Fit}
use Rattle.scan.specs.Step.{shift, moved_by, after, wrote}
use Rattle.stream.specs.declared.Chunk.{Chunk}

-- the bytes of a group of a multiplexed code's words
pub data GroupBytes (w : ℕ) : Type 0 where
  one : w ≡ 1 → GroupBytes w
  two : w ≡ 2 → GroupBytes w
  four : w ≡ 4 → GroupBytes w
  ten : w ≡ 10 → GroupBytes w

-- `len` bytes from place g of a group of w bytes on are whole words: of words that stand alone; of groups of 0015 from the first place of one on, the last not whole perhaps; or of what is left of a group of 0015
pub data Spread (w g len : ℕ) : Type 0 where
  alone : (w ≢ 10) → g ≡ 0 → len % w ≡ 0 → Spread w g len
  groups : w ≡ 10 → g ≡ 0 → len % 2 ≡ 0 → Spread w g len
  rest : w ≡ 10 → 2 ≤ g → g % 2 ≡ 0 → len % 2 ≡ 0 → g + len ≤ 10 → Spread w g len

-- what is lent to read words of groups of w bytes: the code's table, where its words have one byte
abbrev pub Lent : ℕ → ℕ → List (List ℕ) → Type 0
Lent code w tables = w ≡ 1 → tables ≡ table_of code ∷ []

-- the next `len` bytes are whole words of the present scan and before the last place
pub record Able (s : State) (w len : ℕ) : Type 0 where
  pub fit : Fit s
  pub stop : s.stop ≡ 0
  pub group : group_of s.shape.code ≡ w
  pub low : 8 ≤ s.place % s.shape.scan
  pub high : s.place % s.shape.scan + len ≤ s.shape.scan
  pub long : s.place + len ≤ 4294967295
  pub words : Spread w ((s.place % s.shape.scan - 8) % w) len
  pub some : 0 < len

-- r of the `left` next bytes may be taken at once
pub record Ahead (s : State) (left r : ℕ) : Type 0 where
  pub within : r ≤ left
  pub able : 0 < r → Able s (group_of s.shape.code) r

-- word k from place g of a group of w bytes on, with e the exponents of that group where it is 0015's
unfoldable pub value_in : ℕ → ℕ → ℕ → ℕ → List ℕ → ℕ → Value
value_in code w g e = pick (w == 10) (pick (g == 0) (grouped_value code) (rest_value code e ((g - 2) / 2))) (plain_value code w)

-- how many words so many bytes hold
unfoldable pub words_of : ℕ → ℕ → ℕ → ℕ
words_of w g = pick (w == 10) (pick (g == 0) grouped_in (words_in 2)) (words_in w)

-- the last four bytes after the first i of some, h being those before
abbrev pub held_at : List ℕ → ℕ → ℕ → ℕ
held_at bs h zero = h
held_at bs h (suc i) = shift (held_at bs h i) (slice_index bs i)

-- the exponents of the last group of 0015, where a run begins with a group's; else those that there were
unfoldable pub last_exponents : ℕ → ℕ → ℕ → List ℕ → ℕ
last_exponents w g e bs = pick (w == 10) (pick (g == 0) (written 256 (byte_in bs) ((length bs - 1) / 10 * 10) 2) e) e

-- the state after a run with so many off-rule words
unfoldable pub ran_to : State → ℕ → ℕ → List ℕ → ℕ → State
ran_to s w g bs off =
    moved_by s (length bs) s.track (last_exponents w g s.exponents bs) (s.off + off) (held_at bs s.held (length bs))

-- what some bytes come to, byte by byte: the state after them, and how many numbers they write
unfoldable pub chunk : State → List ℕ → Chunk
chunk s bs = record { state = after s bs; count = length (wrote s bs) }

-- the output with the numbers of some bytes from n on
unfoldable pub chunk_out : State → List ℕ → ℕ → List ℤ → List ℤ
chunk_out s bs n out = take n out ++ over (wrote s bs) (drop n out)
