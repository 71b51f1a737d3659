-- Answers laid flat for C: a refusal by the numbers of its row, a test as 1 or 0, what is not there as 0.
-- Assumes nothing.
use Rattle.std.specs.Prelude.{ℕ, Bool, Err, None, Ok, Option, Result, Some}
use Rattle.std.specs.Int.{from_bool}
use Rattle.refusals.specs.declared.Told.{Told}
use Rattle.refusals.specs.Table.{told}
use Rattle.codes.specs.declared.Kind.{Kind}
use Rattle.codes.specs.declared.Kind.TheVariants.{OnesComplement, SignMagnitude, Justified}
use Rattle.deck.specs.declared.SegdFormat.{SegdFormat}
use Rattle.deck.specs.declared.SegdWord.{SegdWord}
use Rattle.refusals.specs.declared.Refusal.{Refusal}
use Rattle.codes.specs.declared.Row.{Row}
use Rattle.words.specs.declared.Value.{Value}
use Rattle.words.specs.Words.{valued}

-- a test: 1 where it holds, else 0
abbrev pub flag : Bool → ℕ
flag t = from_bool t

-- no refusal: the number 0, which no row has
abbrev pub unrefused : Told
unrefused = record { number = 0; first = 0; second = 0; third = 0 }

-- an answer's refusal, if it is one
abbrev pub flat_fault : {A : Type 0} → Result A Refusal → Told
flat_fault (Ok a) = unrefused
flat_fault (Err r) = told r

-- a kind by its number in segd.h
abbrev pub kind_number : Kind → ℕ
kind_number OnesComplement = 1
kind_number SignMagnitude = 2
kind_number Justified = 3

-- a format's columns, all 0 where there is no such code
abbrev pub flat_format : Option Row → SegdFormat
flat_format (Some r) =
    record { found = 1; kind = kind_number r.kind; width = r.width; apart = r.apart; fraction = r.fraction; base = r.base; exponent = r.exponent; bias = r.bias }
flat_format None = record { found = 0; kind = 0; width = 0; apart = 0; fraction = 0; base = 0; exponent = 0; bias = 0 }

-- a word's sample, or its refusal with the rest 0
abbrev pub flat_word : Result Value Refusal → SegdWord
flat_word w = record { refusal = flat_fault w; m = (valued w).m; x = (valued w).x; off = flag (valued w).off }
