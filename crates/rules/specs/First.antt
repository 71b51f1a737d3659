-- What it is for a fault to be the first in tape order: the byte or block end that has it, and none before it that has any.
-- Assumes nothing.
use Rattle.std.specs.Prelude.{ℕ, ◌≤◌, ◌<◌, ◌≡◌, Err, Ok, Result, ⊤}
use Rattle.refusals.specs.declared.Refusal.{Refusal}
use Rattle.rules.specs.Tape.{Body, ends, length_of, fault_of, ending_fault}

module _ (byte_fault end_fault : ℕ → ℕ → ℕ → Result ⊤ Refusal) (d : Body) where
  -- no fault in the first n bytes of block i
  abbrev pub CleanBytes : ℕ → ℕ → Type 0
  CleanBytes i n = (m : ℕ) → m < n → fault_of byte_fault end_fault d i m ≡ Ok tt

  -- nor in the first i blocks and their ends
  abbrev pub CleanBlocks : ℕ → Type 0
  CleanBlocks i = (k : ℕ) → k < i → CleanBytes k (length_of d k) × (ending_fault byte_fault end_fault d k ≡ Ok tt)

  -- nowhere, at byte n of block i, or at the end of block i
  pub data Stops : Result ⊤ Refusal → Type 0 where
    nowhere : CleanBlocks (ends d) → CleanBytes (ends d) (length_of d (ends d)) → Stops (Ok tt)
    at_byte : {r : Refusal} (i n : ℕ) → i ≤ ends d → n < length_of d i → fault_of byte_fault end_fault d i n ≡ Err r → CleanBlocks i → CleanBytes i n → Stops (Err r)
    at_end : {r : Refusal} (i : ℕ) → i < ends d → ending_fault byte_fault end_fault d i ≡ Err r → CleanBlocks i → CleanBytes i (length_of d i) → Stops (Err r)
