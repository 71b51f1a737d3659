-- "Sample words": what a word of each format code stands for, by the columns of the code's row, and which words are off rule.
-- Assumes nothing.
use Rattle.std.specs.Prelude.{ℕ, ◌+◌, ◌-◌, ◌*◌, ◌^◌, Bool, false, ◌&&◌, ◌||◌, eqb, ltb, ℤ, pos, neg_ℤ, ◌-ℤ◌, Err, None, Ok, Option, Result, Some}
use Rattle.basis.specs.Choice.{pick}
use Rattle.basis.specs.Fields.{field}
use Rattle.refusals.specs.declared.Refusal.TheVariants.{Format, Index}
use Rattle.codes.specs.declared.Kind.{Kind}
use Rattle.codes.specs.declared.Kind.TheVariants.{OnesComplement, SignMagnitude, Justified}
use Rattle.codes.specs.declared.Row.{Row}
use Rattle.codes.specs.Codes.{row_of}
use Rattle.words.specs.declared.Value.{Value}
use Rattle.refusals.specs.declared.Refusal.{Refusal}

-- Letters: s is S, the sign; q is Q; e is the page's c, the whole exponent, and c only what of it stands apart from the word; n and b are the bits of q and e.

-- the bits of a word below its fraction, which are not used
abbrev pub spare_of : Row → ℕ
spare_of r = r.width - 1 - r.exponent - r.fraction

-- the parts of a word, as in "S ccc Q4": S, the first of its bits
abbrev pub sign_in : Row → ℕ → ℕ
sign_in r word = field word (r.width - r.apart - 1) 1

-- c: given apart from the word, or its bits above Q
abbrev pub exponent_in : Row → ℕ → ℕ → ℕ
exponent_in r c word = c + field word (spare_of r + r.fraction) (r.exponent - r.apart)

-- Q
abbrev pub fraction_in : Row → ℕ → ℕ
fraction_in r word = field word (spare_of r) r.fraction

-- the bits not used, as the 0 of "S Q14 0"
abbrev pub last_in : Row → ℕ → ℕ
last_in r word = field word 0 (spare_of r)

-- the magnitude that a negative Q of n bits keeps: "complemented", or in the others itself
abbrev pub kept : Kind → ℕ → ℕ → ℕ
kept OnesComplement n q = 2 ^ n - 1 - q
kept SignMagnitude n q = q
kept Justified n q = q

-- M: Q, or where the sign is set "minus the complemented Q" or minus Q
unfoldable pub signed_fraction : Kind → ℕ → ℕ → ℕ → ℤ
signed_fraction kind n s q = pick (eqb s 0) (pos q) (neg_ℤ (pos (kept kind n q)))

-- X: as "4(c - 64) - 23", the exponent less its bias, in the base's powers of two, less n
unfoldable pub power_of : ℕ → ℕ → ℕ → ℕ → ℤ
power_of base bias n e = pos (base * e) -ℤ pos (base * bias + n)

-- "last bit set": a bit below the fraction
unfoldable pub last_bit : ℕ → Bool
last_bit last = ltb 0 last

-- "one's complement negative zero (M = 0)"
unfoldable pub negative_zero : ℕ → ℕ → ℕ → Bool
negative_zero n s q = eqb s 1 && eqb (kept OnesComplement n q) 0

-- "all ones", of n fraction bits and b exponent bits
unfoldable pub all_ones : ℕ → ℕ → ℕ → ℕ → ℕ → Bool
all_ones n b s e q = eqb s 1 && (eqb e (2 ^ b - 1) && eqb q (2 ^ n - 1))

-- "Q zero with sign or exponent not zero"
unfoldable pub not_true_zero : ℕ → ℕ → ℕ → Bool
not_true_zero s e q = eqb q 0 && ltb 0 (s + e)

-- "Q not zero with its first four bits zero"
unfoldable pub not_justified : ℕ → ℕ → Bool
not_justified n q = ltb 0 q && eqb (field q (n - 4) 4) 0

-- what else is off rule, by the kind of the fraction
abbrev pub kind_off : Kind → ℕ → ℕ → ℕ → ℕ → ℕ → Bool
kind_off OnesComplement n b s e q = negative_zero n s q
kind_off SignMagnitude n b s e q = all_ones n b s e q
kind_off Justified n b s e q = not_true_zero s e q || not_justified n q

-- "A word is off rule"
unfoldable pub off_rule : Kind → ℕ → ℕ → ℕ → ℕ → ℕ → ℕ → Bool
off_rule kind n b last s e q = last_bit last || kind_off kind n b s e q

-- "Each sample is (M, X)", with its off-rule mark: one definition over a row's columns
unfoldable pub sample_in : Row → ℕ → ℕ → Value
sample_in r c word =
    record {
      m = signed_fraction r.kind r.fraction (sign_in r word) (fraction_in r word);
      x = power_of r.base r.bias r.fraction (exponent_in r c word);
      off = off_rule r.kind r.fraction r.exponent (last_in r word) (sign_in r word) (exponent_in r c word) (fraction_in r word);
    }

-- a word asked about: INDEX for "a word or c asked about wider than its code's"
unfoldable pub word_in : Row → ℕ → ℕ → Result Value Refusal
word_in r c word =
    pick (ltb c (2 ^ r.apart) && ltb word (2 ^ (r.width - r.apart))) (Ok (sample_in r c word)) (Err Index)

-- FORMAT where the code is not among the twelve
abbrev pub word_found : Option Row → ℕ → ℕ → Result Value Refusal
word_found None c word = Err Format
word_found (Some r) c word = word_in r c word

-- the answer to a word of a code, with the exponent c that stands apart from it (0015; elsewhere 0)
unfoldable pub word_of : ℕ → ℕ → ℕ → Result Value Refusal
word_of code c word = word_found (row_of code) c word

-- a sample's numbers; 0 x 2^0, not off rule, where a word is refused
abbrev pub valued : Result Value Refusal → Value
valued (Ok v) = v
valued (Err r) = record { m = pos 0; x = pos 0; off = false }

-- the sample of a word that its code has
unfoldable pub value_of : ℕ → ℕ → ℕ → Value
value_of code c word = valued (word_of code c word)

-- 1 for an off-rule word
unfoldable pub off_one : Value → ℕ
off_one w = pick w.off 1 0
