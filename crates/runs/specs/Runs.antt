-- What a run over whole words comes to, whatever their code.
-- Assumes nothing.
use Rattle.std.specs.Prelude.{ℕ, min, ◌/◌, List, [], ◌∷◌, ◌++◌, ℤ, length, drop}
use Rattle.basis.specs.Upto.{sum_upto, list_upto}
use Rattle.words.specs.declared.Value.{Value}
use Rattle.words.specs.Words.{off_one}
use Rattle.runs.specs.declared.Ran.{Ran}
use Rattle.runs.specs.Words.{byte_value}

-- 1 where word k is off rule
abbrev off_at : (ℕ → Value) → ℕ → ℕ
off_at f k = off_one (f k)

-- the off-rule words among the first n
unfoldable pub offs : (ℕ → Value) → ℕ → ℕ
offs f n = sum_upto (off_at f) n

-- the off-rule words among some bytes, each of them a word of 0022 or else of 0042
unfoldable pub marked : ℕ → List ℕ → ℕ
marked code bs = offs (byte_value code bs) (length bs)

-- M and X of word k
abbrev both : (ℕ → Value) → ℕ → List ℤ
both f k = (f k).m ∷ (f k).x ∷ []

-- M and X in turn, of the first n words
unfoldable pub numbers : (ℕ → Value) → ℕ → List ℤ
numbers f n = list_upto (both f) n

-- a list with another over its front: "Output past the samples written is untouched"
unfoldable pub over : List ℤ → List ℤ → List ℤ
over w out = w ++ drop (length w) out

-- the samples of so many words, as far as the room takes two numbers for each
unfoldable pub samples_in : ℕ → ℕ → ℕ
samples_in words room = min words (room / 2)

-- of some bytes and an output, with `words` the number of words that so many bytes hold and `word bs k` the value of word k: the answer
unfoldable pub ran : (ℕ → ℕ) → (List ℕ → ℕ → Value) → List ℕ → List ℤ → Ran
ran words word bs out =
    record { samples = samples_in (words (length bs)) (length out); off = offs (word bs) (samples_in (words (length bs)) (length out)) }

-- and the output, with the numbers over its front
unfoldable pub filled : (ℕ → ℕ) → (List ℕ → ℕ → Value) → List ℕ → List ℤ → List ℤ
filled words word bs out = over (numbers (word bs) (samples_in (words (length bs)) (length out))) out
