-- A lent slice as a caller has it, and a part of it: "the very part of the caller's block", not a copy that has the same bytes.
-- Assumes nothing.
use Rattle.std.specs.Prelude.{ℕ, ◌+◌, List, take, drop}

-- where a slice lies in memory, its allocation and the offset there, and its bytes
pub record Slice : Type 0 where
  pub pointer : ℕ × ℕ
  pub bytes : List ℕ

-- the slice of a pointer and bytes
abbrev pub slice : ℕ × ℕ → List ℕ → Slice
slice pointer bytes = record { pointer = pointer; bytes = bytes }

-- n bytes of a slice, after its first a
unfoldable pub part : Slice → ℕ → ℕ → Slice
part s a n = slice (s.pointer.0, a + s.pointer.1) (take n (drop a s.bytes))
