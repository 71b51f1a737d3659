-- No line is longer than `line_room`.
-- Assumes nothing.
use Prim.Native.Nat.{ℕ, zero, suc, ◌/◌, ◌%◌, ◌≤◌}
use mathlib.Core.Path.{◌≡◌, refl, ◌∙◌}
use mathlib.Core.List.{[], ◌∷◌}
use native.Mathlib.Omega.{arith}
use lib.Dec.{ltb}
use lib.ListN.{length, length-append}
use Rattle.io.specs.Digits.{last_digits, hex_digit_ascii}
use Rattle.basis.proofs.Choices.{pick_both}
use Rattle.refusals.specs.Table.{told}
use Rattle.framing.specs.declared.Ending.{Ending}
use Rattle.framing.specs.declared.Ending.TheVariants as E
use Rattle.std.specs.Prelude.{Result, Ok, Err}
use Rattle.listing.specs.declared.Listed.{Listed}
use Rattle.listing.specs.declared.TurnedAway.{TurnedAway}
use Rattle.listing.specs.Lines.{places, decimal_of, place_of, line_of, last_of}
use Rattle.listing.specs.Lent.{line_room}

digits_length : (b k n : ℕ) → length (last_digits b k n) ≡ k
digits_length b zero n = refl
digits_length b (suc k) n =
    let e = digits_length b k (n / b) in
    length-append (last_digits b k (n / b)) (hex_digit_ascii (n % b) ∷ []) ∙ omega (arith, e)

places_most : (most n : ℕ) → places most n ≤ suc most
places_most zero n = omega arith
places_most (suc most) n = pick_both (λ (k : ℕ). k ≤ suc (suc most)) (ltb n 10) (omega arith) (let h = places_most most (n / 10) in omega (arith, h))

decimal_length : (n : ℕ) → length (decimal_of n) ≤ 20
unfolding decimal_of
decimal_length n = omega (arith, digits_length 10 (places 19 n) n, places_most 19 n)

pub line_length : (n : ℕ) (o : Result Listed TurnedAway) → length (line_of n o) ≤ line_room
line_length n (Ok l) =
    let a = decimal_length n in
    let b = digits_length 10 4 l.file in
    let c = digits_length 16 4 l.format in
    let d = decimal_length l.scans in
    let e = decimal_length l.samples in
    let f = decimal_length l.off in
    simp length-append (omega (arith, a, b, c, d, e, f))
line_length n (Err t) =
    let a = decimal_length n in
    let b = decimal_length (told t.refusal).number in
    let c = decimal_length (place_of t.refusal t.bytes) in
    simp length-append (omega (arith, a, b, c))

pub last_length : (e : Ending) → length (last_of e) ≤ line_room
last_length E.Ok = omega arith
last_length E.Cut = omega arith
last_length E.Version = omega arith
