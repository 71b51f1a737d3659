-- A body on tape, and the first fault in tape order, whatever the rules for its bytes and its block ends. Blocks and places count from 0.
-- Assumes nothing.
use Rattle.std.specs.Prelude.{ℕ, suc, ◌+◌, List, length, get_or, Result, ⊤}
use Rattle.basis.specs.Upto.{sum_upto, list_upto}
use Rattle.refusals.specs.Order.{or_else, first_upto}
use Rattle.refusals.specs.declared.Refusal.{Refusal}

-- "A body is bytes and block ends": the blocks, each with its end, then what follows the last block end
pub record Body : Type 0 where
  pub blocks : List (List ℕ)
  pub tail : List ℕ

-- how many blocks have ended
abbrev pub ends : Body → ℕ
ends d = length d.blocks

-- the bytes of block i; the block that has not ended is what follows the last end
abbrev pub block_of : Body → ℕ → List ℕ
block_of d i = get_or d.blocks i d.tail

-- how many they are
abbrev pub length_of : Body → ℕ → ℕ
length_of d i = length (block_of d i)

-- where block i begins: as many bytes come before it as the blocks before it have
abbrev pub start_of : Body → ℕ → ℕ
start_of d = sum_upto (length_of d)

-- all bytes, in tape order, their number, and the one at place p
abbrev pub bytes_of : Body → List ℕ
bytes_of d = list_upto (block_of d) (suc (ends d))

abbrev pub size : Body → ℕ
size d = length (bytes_of d)

abbrev pub byte_at : Body → ℕ → ℕ
byte_at d p = get_or (bytes_of d) p 0

-- The rules: the fault of the byte at place p, and of a block end after p bytes, in block i, which begins at place s.
module _ (byte_fault end_fault : ℕ → ℕ → ℕ → Result ⊤ Refusal) (d : Body) where
  -- the fault of byte n of block i, counted from 0
  abbrev pub fault_of : ℕ → ℕ → Result ⊤ Refusal
  fault_of i n = byte_fault i (start_of d i) (start_of d i + n)

  -- the first among the bytes of block i
  abbrev pub bytes_fault : ℕ → Result ⊤ Refusal
  bytes_fault i = first_upto (fault_of i) (length_of d i)

  -- of its end
  abbrev pub ending_fault : ℕ → Result ⊤ Refusal
  ending_fault i = end_fault i (start_of d i) (start_of d (suc i))

  -- the first of block i: its bytes come before its end
  abbrev pub block_fault : ℕ → Result ⊤ Refusal
  block_fault i = or_else (bytes_fault i) (ending_fault i)

  -- the first of all: the blocks in order, then what follows the last end
  unfoldable pub first_fault : Result ⊤ Refusal
  first_fault = or_else (first_upto block_fault (ends d)) (bytes_fault (ends d))
