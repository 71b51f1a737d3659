-- What is said at a mark, and the lines' buffer.
-- Assumes nothing.
use Rattle.std.specs.Prelude.{None, Option, Some, Result}
use Rattle.std.proofs.Common.{◌≡◌, ℕ, ◌+◌, ◌≤◌, List, ◌++◌, length, sym, refl, ap, ◌∙◌, append-nil, zero-add, arith, length-append, le-ltb}
use lib.Seq.{sets, length-sets}
use Rattle.basis.specs.Choice.{pick}
use Rattle.listing.specs.Lines.{line_of}
use Rattle.listing.specs.Lent.{line_room, line_in, line_end}
use Rattle.listing.proofs.Pieces.{sets_append}
use Rattle.listing.proofs.Lent.{none}
use Rattle.lister.specs.Turn.{next_number, text_by}
use Rattle.lister.proofs.Room.{made}
use Rattle.listing.specs.declared.Listed.{Listed}
use Rattle.listing.specs.declared.TurnedAway.{TurnedAway}

-- the text that is said goes after the lines at the front, where there is room for a line
pub put_said : (s : Option (Result Listed TurnedAway)) (count to : ℕ) (lines₀ lines out : List ℕ) → lines ≡ sets lines₀ 0 out → to ≡ length out → (made s ≡ 1 → length out + line_room ≤ length lines₀)
    → (line_end lines to (text_by s count) ≡ length (out ++ text_by s count)) × (line_in lines to (text_by s count) ≡ sets lines₀ 0 (out ++ text_by s count))
unfolding pick
put_said None count to lines₀ lines out e p room =
    let n = none lines to in
    rw (append-nil out) (sym n.0 ∙ p, sym n.1 ∙ e)
put_said (Some o) count to lines₀ lines out e p room =
    let l : length lines ≡ length lines₀ = ap length e ∙ length-sets lines₀ 0 out in
    let t = le-ltb (length lines) (to + line_room) (omega (arith, room refl)) in
    rw t
    (rw length-append (omega (arith, p)), rw (p, e, sets_append lines₀ 0 out (line_of (next_number count) o), zero-add (length out)))
