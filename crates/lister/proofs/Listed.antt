-- However an image is cut, what the lister hands over is the whole image's listing.
-- Assumes nothing.
use Rattle.std.proofs.Common.{◌≡◌, ℕ, zero, suc, ◌+◌, ◌-◌, ◌/◌, ◌<◌, ◌≤◌, Bool, true, false, leb, List, [], ◌∷◌, ◌++◌, map, length, drop, sym, refl, ap, ◌∙◌, append_assoc, append-nil, zero-add, arith, length-drop, length-take, le-ltb, leb-false}
use lib.Seq.{length-sets}
use Rattle.basis.specs.Choice.{pick}
use Rattle.framing.specs.declared.Frame.{Frame}
use Rattle.framing.specs.declared.Met.{Met}
use Rattle.framing.specs.declared.Met.TheVariants.{Framing, Part, Whole, Mark}
use Rattle.framing.specs.Next.{next_of, ending_of}
use Rattle.framing.specs.Image.{reading_of}
use Rattle.framing.specs.Cuts.{Event, byte, tells, part, walk, walks, Walk, items_told, joined}
use Rattle.framing.proofs.Forward.{forward}
use Rattle.framing.proofs.Framed.{framed}
use Rattle.agree.specs.Calls.{Bytes}
use Rattle.listing.specs.Lent.{line_room}
use Rattle.listing.proofs.Lent.{front}
use Rattle.listing.proofs.Longest.{last_length}
use Rattle.lister.specs.Listing.{header_room, files_of, lines_of}
use Rattle.lister.specs.Turn.{Lister, turned, turns, walked}
use Rattle.lister.specs.Calls.{least_file, called, last_by}
use Rattle.lister.specs.Listed.{Desk, taken, calls, fresh, written, Portions, Listed}
use Rattle.lister.proofs.Bytes.{bytes_take, bytes_drop, bytes_joined, items_bytes, items_few}
use Rattle.lister.proofs.Telling.{Sum, tell_all, tell_append, tell_bytes, sum, tell_all_lem}
use Rattle.lister.proofs.Hearing.{Good, Some, hear_any}
use Rattle.lister.proofs.Room.{Roomy, roomy_is, is_roomy, walked_short}

abbrev Fine : ℕ → ℕ → Sum → Lister → Type 0
Fine cap most u s = Good cap most u s.progress.file s.progress.count s.header s.numbers s.out

-- ---- one step
part_some : (bytes : List ℕ) (at to : ℕ) → at < to → to ≤ length bytes → 0 < length (part at to bytes)
part_some bytes at to h k = simp (length-take, length-drop) (omega arith)

part_most : (bytes : List ℕ) (at to : ℕ) → length (part at to bytes) ≤ length bytes
part_most bytes at to = simp (length-take, length-drop) (omega arith)

any_some : (m : Met) (p : List ℕ) → 0 < length p → Some m p
any_some Framing p h = tt
any_some Part p h = h
any_some Whole p h = h
any_some Mark p h = tt

next_some : (f : Frame) (bytes : List ℕ) (at : ℕ) → Some (next_of f bytes at).met (part at (next_of f bytes at).to bytes)
unfolding pick
next_some f bytes at = go (leb (length bytes) at) refl
  where
    go : (t : Bool) → leb (length bytes) at ≡ t → Some (next_of f bytes at).met (part at (next_of f bytes at).to bytes)
    go true e = rw e tt
    go false e = let w = forward f bytes at (leb-false (length bytes) at e) in any_some (next_of f bytes at).met (part at (next_of f bytes at).to bytes) (part_some bytes at (next_of f bytes at).to w.grows w.stays)

turn_fine : (cap most : ℕ) (u : Sum) (s : Lister) (bytes : List ℕ) (at : ℕ) → length bytes ≤ most → Bytes bytes → Fine cap most u s
    → Fine cap most (tell_all cap u (tells (next_of s.progress.frame bytes at).met (part at (next_of s.progress.frame bytes at).to bytes))) (turned s bytes at)
turn_fine cap most u s bytes at short ok g =
    let n = next_of s.progress.frame bytes at in
    rw (← g.size)
    (hear_any most u s.progress.file s.progress.count s.header s.numbers s.out n.met (part at n.to bytes) (next_some s.progress.frame bytes at)
    (omega (arith, part_most bytes at n.to)) (bytes_take (n.to - at) (drop at bytes) (bytes_drop at bytes ok)) (record { rel = g.rel; size = refl; half = g.half }))

-- ---- a portion: the lister and the walk over the same bytes have the same place, and what was told is what it has
record Both (cap most : ℕ) (u : Sum) (s : Lister) (w : Walk) : Type 0 where
  frame : s.progress.frame ≡ w.frame
  fine : Fine cap most (tell_all cap u w.told) s

turns_walk : (k cap most : ℕ) (u : Sum) (s : Lister) (bytes : List ℕ) (at : ℕ) → length bytes ≤ most → Bytes bytes → Fine cap most u s → Both cap most u (turns k s bytes at) (walk k s.progress.frame bytes at)
turns_walk zero cap most u s bytes at short ok g = record { frame = refl; fine = g }
turns_walk (suc k) cap most u s bytes at short ok g =
    let n = next_of s.progress.frame bytes at in
    let ts : List Event = tells n.met (part at n.to bytes) in
    let rest = turns_walk k cap most (tell_all cap u ts) (turned s bytes at) bytes n.to short ok (turn_fine cap most u s bytes at short ok g) in
    record { frame = rest.frame; fine = rw (tell_append cap u ts (walk k n.frame bytes n.to).told) rest.fine }

-- what was made before goes first
abbrev onto : List ℕ → Lister → Lister
onto o s = record { progress = s.progress; header = s.header; numbers = s.numbers; out = o ++ s.out }

turns_onto : (k : ℕ) (o : List ℕ) (s : Lister) (bytes : List ℕ) (at : ℕ) → turns k (onto o s) bytes at ≡ onto o (turns k s bytes at)
turns_onto zero o s bytes at = refl
turns_onto (suc k) o s bytes at =
    ap (λ (l : List ℕ). turns k (record { progress = (turned s bytes at).progress; header = (turned s bytes at).header; numbers = (turned s bytes at).numbers; out = l }) bytes (next_of s.progress.frame bytes at).to) (append_assoc o s.out _)
    ∙ turns_onto k o (turned s bytes at) bytes (next_of s.progress.frame bytes at).to

-- ---- portion after portion
abbrev lister_at : Desk → Lister
lister_at d = record { progress = d.progress; header = d.header; numbers = d.numbers; out = d.handed }

-- a call hands over the lines of its portion
called_walks : (d : Desk) (p : List ℕ) → Roomy (length p) d.header d.numbers d.lines
    → lister_at (taken d (called d.progress p d.header d.numbers d.lines)) ≡ turns (length p) (lister_at d) p 0
unfolding pick called walked
called_walks d p r =
    let w = walked d.progress p d.header d.numbers in
    rw (is_roomy (length p) d.header d.numbers d.lines r, front w.out d.lines (walked_short d.progress p d.header d.numbers d.lines r))
    (sym (turns_onto (length p) d.handed (record { progress = d.progress; header = d.header; numbers = d.numbers; out = [] }) p 0)
    ∙ ap (λ (l : List ℕ). turns (length p) (record { progress = d.progress; header = d.header; numbers = d.numbers; out = l }) p 0) (append-nil d.handed))

record Came (most : ℕ) (u : Sum) (d : Desk) (lines : List ℕ) (w : Walk) : Type 0 where
  both : Both header_room most u (lister_at d) w
  same : length d.lines ≡ length lines

calls_walks : (most : ℕ) (u : Sum) (d : Desk) (ps : List (List ℕ)) → Portions most ps → most / least_file < length d.lines / line_room → Fine header_room most u (lister_at d)
    → Came most u (calls d ps) d.lines (walks d.progress.frame ps)
calls_walks most u d [] k some g = record { both = record { frame = refl; fine = g }; same = refl }
calls_walks most u d (p ∷ ps) k some g =
    let n : Desk = taken d (called d.progress p d.header d.numbers d.lines) in
    let w = walk (length p) d.progress.frame p 0 in
    let short = k.0.0 in
    let r : Roomy (length p) d.header d.numbers d.lines = record { size = g.size; half = omega (arith, short, g.half); some = omega (arith, short) } in
    let one : Both header_room most u (lister_at n) w = rw (called_walks d p r) (turns_walk (length p) header_room most u (lister_at d) p 0 short k.0.1 g) in
    let l : length n.lines ≡ length d.lines = length-sets d.lines 0 (called d.progress p d.header d.numbers d.lines).out in
    let rest = calls_walks most (tell_all header_room u w.told) n ps k.1 (omega (arith, some, l)) one.fine in
    let f : n.progress.frame ≡ w.frame = one.frame in
    record {
      both = record {
        frame = rest.both.frame ∙ ap (λ (x : Frame). (walks x ps).frame) f;
        fine = rw (tell_append header_room u w.told (walks w.frame ps).told) (rw f at rest.both.fine);
      };
      same = rest.same ∙ l;
    }

-- the last line is handed over whole
last_written : (d : Desk) → line_room ≤ length d.lines → written d ≡ d.handed ++ last_by d.progress
unfolding pick
last_written d h =
    let l = last_length (ending_of d.progress.frame) in
    rw (le-ltb (length d.lines) (0 + line_room) (omega arith))
    (ap (λ (t : List ℕ). d.handed ++ t) (rw (zero-add (length (last_by d.progress))) (front (last_by d.progress) d.lines (omega (arith, l)))))

pub listed : Listed
listed most header numbers lines portions roomy short size =
    let r = roomy_is most header numbers lines roomy in
    let u : Sum = sum [] 0 [] in
    let d = calls (fresh header numbers lines) portions in
    let g : Fine header_room most u (lister_at (fresh header numbers lines)) = record { rel = record { file_is = refl; count_is = refl; out_is = refl; whole = tt; some = tt; kept = λ h. refl }; size = r.size; half = r.half } in
    let c = calls_walks most u (fresh header numbers lines) portions short r.some g in
    let b = c.both in
    let a = framed portions in
    let i = reading_of (joined portions) in
    let text : d.handed ≡ joined (lines_of header_room 0 (files_of i.items)) =
    b.fine.rel.out_is
    ∙ ap (λ (ts : List Event). (tell_all header_room u ts).out) a.told
    ∙ ap (λ (v : Sum). v.out) (tell_append header_room u (items_told i.items) (map byte i.tail) ∙ tell_bytes header_room (tell_all header_room u (items_told i.items)) i.tail)
    ∙ tell_all_lem header_room i.items (items_bytes (joined portions) (bytes_joined most portions short)) (omega (arith, items_few (joined portions))) in
    let end : ending_of d.progress.frame ≡ i.ending = ap ending_of b.frame ∙ a.ending in
    last_written d (omega (arith, r.some, c.same)) ∙ rw (text, end)
