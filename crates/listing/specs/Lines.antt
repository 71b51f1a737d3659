-- The text of the lister's lines, as bytes.
-- Assumes nothing.
use Rattle.std.specs.Prelude.{ℕ, zero, suc, ◌/◌, List, [], ◌∷◌, ◌++◌, ltb, leb, Result, Ok, Err}
use Prim.Native.Char.{code}
use Prim.Native.String.{String, [] as none, ◌∷◌ as ◌then◌}
use Rattle.io.specs.Digits.{last_digits}
use Rattle.basis.specs.Choice.{pick}
use Rattle.refusals.specs.declared.Refusal.{Refusal}
use Rattle.refusals.specs.Table.{told}
use Rattle.framing.specs.declared.Ending.{Ending}
use Rattle.framing.specs.declared.Ending.TheVariants as E
use Rattle.framing.specs.Cuts.{joined}
use Rattle.listing.specs.declared.Listed.{Listed}
use Rattle.listing.specs.declared.TurnedAway.{TurnedAway}

-- how many decimal digits hold n, one at least and at most one more than `most`
abbrev pub places : ℕ → ℕ → ℕ
places zero n = 1
places (suc most) n = pick (ltb n 10) 1 (suc (places most (n / 10)))

-- a number of 64 bits in decimal, by the fewest digits
unfoldable pub decimal_of : ℕ → List ℕ
decimal_of n = last_digits 10 (places 19 n) n

-- the bytes of a text of ASCII characters
abbrev pub ascii : String → List ℕ
ascii none = []
ascii (c then s) = code c ∷ ascii s

-- "P the stop's place, body length for 19 to 21, 0 for headers": for a refusal's number, its first and third value and the body's length.
-- A stop's place is its row's first value, that of FOUR the third, which is 0 where a header is refused; LARGE and STATE name none
abbrev pub place_for : ℕ → ℕ → ℕ → ℕ → ℕ
place_for number first third bytes = pick (ltb number 14) third (pick (leb number 18) first (pick (leb number 21) bytes first))

-- P of a refusal
abbrev pub place_of : Refusal → ℕ → ℕ
place_of r bytes = place_for (told r).number (told r).first (told r).third bytes

-- "record number, then `file`, `format`" with their values, and "`scans`, `samples`, `off`" with theirs
abbrev pub names_of : ℕ → ℕ → ℕ → List ℕ
names_of n file format = decimal_of n ++ ((ascii " file " ++ last_digits 10 4 file) ++ (ascii " format " ++ last_digits 16 4 format))

abbrev pub counts_of : ℕ → ℕ → ℕ → List ℕ
counts_of scans samples off = (ascii " scans " ++ decimal_of scans) ++ ((ascii " samples " ++ decimal_of samples) ++ (ascii " off " ++ decimal_of off))

-- a file that is listed, with its numbers
abbrev pub listed : ℕ → ℕ → ℕ → ℕ → ℕ → Result Listed TurnedAway
listed file format scans samples off = Ok (record { file = file; format = format; scans = scans; samples = samples; off = off })

-- one that was refused, its body so many bytes long by then
abbrev pub turned_away : Refusal → ℕ → Result Listed TurnedAway
turned_away r bytes = Err (record { refusal = r; bytes = bytes })

-- "record number, then `file`, `format`, `scans`, `samples`, `off` with their values, or `refused R at P`"
abbrev pub line_of : ℕ → Result Listed TurnedAway → List ℕ
line_of n (Ok l) = names_of n l.file l.format ++ (counts_of l.scans l.samples l.off ++ ascii "\n")
line_of n (Err t) =
    joined
    (decimal_of n
    ∷ ascii " refused " ∷ decimal_of (told t.refusal).number
    ∷ ascii " at " ∷ decimal_of (place_of t.refusal t.bytes)
    ∷ ascii "\n" ∷ [])

-- "Last line: `reel ok`; `reel cut` ..; or `reel version`"
abbrev pub last_of : Ending → List ℕ
last_of E.Ok = ascii "reel ok\n"
last_of E.Cut = ascii "reel cut\n"
last_of E.Version = ascii "reel version\n"
