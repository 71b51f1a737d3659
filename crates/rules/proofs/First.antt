-- The stop is the first fault in tape order, whatever the rules: the byte or block end that it names has that fault, and none before it has any.
-- Assumes nothing.
use Rattle.std.specs.Prelude.{Err, Ok, Result, ⊤}
use Prim.Native.Nat.{ℕ, ◌≤◌}
use mathlib.Core.Path.{◌≡◌, refl}
use mathlib.Core.Logic.{⊎_elim}
use native.Mathlib.Omega.{arith}
use Rattle.refusals.specs.declared.Refusal.{Refusal}
use Rattle.refusals.specs.Order.{or_else, first_upto}
use Rattle.refusals.proofs.Clears.{both_clear, each_clear, at_either, Found, found, first_at}
use Rattle.rules.specs.Tape.{Body, ends, length_of, fault_of, bytes_fault, ending_fault, block_fault, first_fault}
use Rattle.rules.specs.First.{CleanBytes, CleanBlocks, Stops, nowhere, at_byte, at_end}

module _ (byte_fault end_fault : ℕ → ℕ → ℕ → Result ⊤ Refusal) (d : Body) where
  clean_bytes : (i n : ℕ) → first_upto (fault_of byte_fault end_fault d i) n ≡ Ok tt → CleanBytes byte_fault end_fault d i n
  clean_bytes i n e m h = each_clear (fault_of byte_fault end_fault d i) m n h e

  clean_blocks : (i : ℕ) → first_upto (block_fault byte_fault end_fault d) i ≡ Ok tt → CleanBlocks byte_fault end_fault d i
  clean_blocks i e k h =
      let p = both_clear (bytes_fault byte_fault end_fault d k) (ending_fault byte_fault end_fault d k) (each_clear (block_fault byte_fault end_fault d) k i h e) in
      (clean_bytes k (length_of d k) p.0, p.1)

  in_bytes : (r : Refusal) (i : ℕ) → i ≤ ends d → CleanBlocks byte_fault end_fault d i → Found (fault_of byte_fault end_fault d i) (length_of d i) r → Stops byte_fault end_fault d (Err r)
  in_bytes r i h c (found n l e f) = at_byte i n h l e c (clean_bytes i n f)

  in_block : (r : Refusal) → Found (block_fault byte_fault end_fault d) (ends d) r → Stops byte_fault end_fault d (Err r)
  in_block r (found i h e f) =
      ⊎_elim (λ q. in_bytes r i (omega arith) (clean_blocks i f) (first_at (fault_of byte_fault end_fault d i) (length_of d i) r q))
      (λ p. at_end i h p.1 (clean_blocks i f) (clean_bytes i (length_of d i) p.0))
      (at_either (bytes_fault byte_fault end_fault d i) (ending_fault byte_fault end_fault d i) r e)

  by_fault : (f : Result ⊤ Refusal) → or_else (first_upto (block_fault byte_fault end_fault d) (ends d)) (bytes_fault byte_fault end_fault d (ends d)) ≡ f → Stops byte_fault end_fault d f
  by_fault (Ok tt) e =
      let p = both_clear (first_upto (block_fault byte_fault end_fault d) (ends d)) (bytes_fault byte_fault end_fault d (ends d)) e in
      nowhere (clean_blocks (ends d) p.0) (clean_bytes (ends d) (length_of d (ends d)) p.1)
  by_fault (Err r) e =
      ⊎_elim (λ q. in_block r (first_at (block_fault byte_fault end_fault d) (ends d) r q))
      (λ p. in_bytes r (ends d) (omega arith) (clean_blocks (ends d) p.0) (first_at (fault_of byte_fault end_fault d (ends d)) (length_of d (ends d)) r p.1))
      (at_either (first_upto (block_fault byte_fault end_fault d) (ends d)) (bytes_fault byte_fault end_fault d (ends d)) r e)

  pub first_fault_lem : Stops byte_fault end_fault d (first_fault byte_fault end_fault d)
  unfolding first_fault
  first_fault_lem = by_fault (first_fault byte_fault end_fault d) refl
