-- The starred bench figures: one table, and what it is that each of its lines says. (`proofs/Figures.antt` has the one theorem.)
-- It has two things more: the four examples of the descale exponent MP, and 0042's word 80, which is not off rule.
-- Assumes nothing.
use Rattle.std.specs.Prelude.{ℕ, ◌≡◌, Bool, true, false, List, [], ◌∷◌, ◌++◌, ℤ, pos, neg_ℤ, length, replicate, Err, None, Ok, Option, Result, Some}
use Rattle.refusals.specs.Table.{said}
use Rattle.values.specs.Values.{Scaled, scaled, Same}
use Rattle.words.specs.Words.{word_of}
use Rattle.block.specs.Bytes.{packed_of}
use Rattle.general.specs.General.{bytes_per_scan, skew_fields}
use Rattle.sets.specs.Samples.{samples_of}
use Rattle.sets.specs.ChannelSets.{quarters}
use Rattle.header.specs.Faults.{header_fault}
use Rattle.layout.specs.declared.Place.{Place}
use Rattle.layout.specs.Indexes.{spot, place_answer}
use Rattle.skew.specs.Times.{time_by}
use Rattle.rules.specs.Scans.{next_timing}
use Rattle.refusals.specs.declared.Refusal.{Refusal}
use Rattle.words.specs.declared.Value.{Value}

-- so many zero bytes
abbrev zeros : ℕ → List ℕ
zeros n = replicate n 0

-- a descriptor of scan type 1: its set, the digits of its channels, its S/C in the upper half
abbrev descriptor : ℕ → ℕ → ℕ → List ℕ
descriptor set channels exponent = 0x01 ∷ set ∷ 0 ∷ 0 ∷ 0 ∷ 2 ∷ 0 ∷ 0 ∷ 0 ∷ channels ∷ 0x10 ∷ exponent ∷ zeros 20

-- the starred header: "Sets 4x1, 96x1, 12x4", in 0015, with its skew recorded
abbrev pub starred : List ℕ
starred =
    (0x00 ∷ 0x01 ∷ 0x00 ∷ 0x15 ∷ zeros 6) ++ (0x80 ∷ 0x00 ∷ 0x45 ∷ 0x09 ∷ 0x30 ∷ 0x00 ∷ 0x00 ∷ 0x00 ∷ 0x01 ∷ 0x00 ∷ 0x03 ∷ 0x78 ∷ [])
    ++ (0x20 ∷ 0x00 ∷ 0x00 ∷ 0x80 ∷ 0x05 ∷ 0x01 ∷ 0x03 ∷ 0x05 ∷ 0x00 ∷ 0x00 ∷ [])
    ++ descriptor 0x01 0x04 0x00 ++ descriptor 0x02 0x96 0x00 ++ descriptor 0x03 0x12 0x20 ++ zeros 160

-- a sample, by its numbers
abbrev pub sample : ℤ → ℤ → Bool → Result Value Refusal
sample m x off = Ok (record { m = m; x = x; off = off })

-- A line: what is asked, and the answer.
pub data Figure : Type 0 where
  -- a word of a code, with the exponent c that stands apart from it
  word : (code : ℕ) → (c : ℕ) → (bits : ℕ) → Result Value Refusal → Figure
  -- a value, in millivolts, that is another
  value : Scaled → Scaled → Figure
  -- a byte as a descale exponent MP, in quarters
  descale : (byte : ℕ) → ℤ → Figure
  -- a byte as a digit pair
  pair : (byte : ℕ) → Option ℕ → Figure
  -- a header block that is accepted, with its S/S, B, SK and length
  header : (block : List ℕ) → (samples : ℕ) → (scan : ℕ) → (skew : ℕ) → (bytes : ℕ) → Figure
  -- the place of sample k of scan type 1 of a header block
  place : (block : List ℕ) → (k : ℕ) → Result Place Refusal → Figure
  -- the number by which the question for sample k of scan type 1 of a header block is refused
  refused : (block : List ℕ) → (k : ℕ) → (number : ℕ) → Figure
  -- a sample's time, of T, SS and I
  time : (T : ℕ) → (SS : ℕ) → (I : ℕ) → ℕ → Figure
  -- the timing word that comes after one, of I and T
  timing : (I : ℕ) → (T : ℕ) → ℕ → Figure

-- the number that a question for a place is refused by; none is 0
abbrev number_in : Result Place Refusal → ℕ
number_in (Ok p) = 0
number_in (Err r) = (said r).number

-- what a line says
abbrev pub Says : Figure → Type 0
Says (word code c bits is) = word_of code c bits ≡ is
Says (value a b) = Same a b
Says (descale byte is) = quarters byte ≡ is
Says (pair byte is) = packed_of byte ≡ is
Says (header block samples scan skew bytes) =
    (header_fault block ≡ Ok tt) × (samples_of block 0 ≡ samples) × (bytes_per_scan block ≡ scan) × (skew_fields block ≡ skew) × (length block ≡ bytes)
Says (place block k is) = place_answer block 1 k ≡ is
Says (refused block k number) = number_in (place_answer block 1 k) ≡ number
Says (time T SS I is) = time_by T SS I ≡ is
Says (timing I T is) = next_timing I T ≡ is

-- the table
unfoldable pub figures : List Figure
figures =
    pair 0x99 (Some 99) ∷
    pair 0x9A None ∷
    descale 0x01 (pos 1) ∷
    descale 0x81 (neg_ℤ (pos 1)) ∷
    descale 0x7F (pos 127) ∷
    descale 0x80 (pos 0) ∷
    word 0x0022 0 0x97 (sample (neg_ℤ (pos 8)) (neg_ℤ (pos 2)) false) ∷
    word 0x0022 0 0xFF (sample (pos 0) (pos 10) true) ∷
    word 0x0042 0 0xFE (sample (neg_ℤ (pos 30)) (pos 7) false) ∷
    word 0x0042 0 0xFF (sample (neg_ℤ (pos 31)) (pos 7) true) ∷
    word 0x0042 0 0x80 (sample (pos 0) (neg_ℤ (pos 5)) false) ∷
    word 0x0044 0 0xFFFF (sample (neg_ℤ (pos 8191)) (neg_ℤ (pos 1)) true) ∷
    word 0x0048 0 0x41100000 (sample (pos 524288) (neg_ℤ (pos 19)) false) ∷
    value (scaled (pos 524288) (neg_ℤ (pos 19))) (scaled (pos 1) (pos 0)) ∷
    word 0x0048 0 0x41080000 (sample (pos 262144) (neg_ℤ (pos 19)) true) ∷
    word 0x0048 0 0x80000000 (sample (pos 0) (neg_ℤ (pos 279)) true) ∷
    word 0x0015 15 0x8000 (sample (neg_ℤ (pos 16383)) (pos 1) false) ∷
    timing 128 0xFFF800 0x000000 ∷
    time 512 1 32 8224 ∷
    header starred 148 378 5 288 ∷
    place starred 112 (Ok (spot 3 1 1)) ∷
    refused starred 148 11 ∷
    []

-- every line of a table holds
abbrev pub All : List Figure → Type 0
All [] = Unit
All (f ∷ fs) = Says f × All fs
