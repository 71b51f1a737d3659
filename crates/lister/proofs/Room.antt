-- The lines that a portion makes have room in a buffer that is roomy: a file that has a line takes nine bytes of image at least.
-- Assumes nothing.
use Rattle.std.specs.Prelude.{None, Option, Some, Result}
use Rattle.std.proofs.Common.{◌≡◌, ℕ, zero, suc, ◌+◌, ◌-◌, ◌*◌, ◌/◌, ◌<◌, ◌≤◌, Bool, true, false, eqb, ltb, leb, List, [], ◌∷◌, length, get_or, ℤ, refl, zero-le, arith, length-append, ltb-false, ltb-true, lt-ltb, eq-eqb, eqb-true, le-leb, leb-false, leb-true}
use borrow.Author.Tests.{lt-leb}
use lib.Seq.{sets, length-sets}
use Rattle.basis.specs.Choice.{pick}
use Rattle.basis.proofs.Choices.{pick_both, and_true}
use Rattle.framing.specs.declared.Frame.{Frame}
use Rattle.framing.specs.declared.Frame.TheVariants.{Start, Length, Second, Third, Fourth, Item, Over, Wrong}
use Rattle.framing.specs.declared.Met.TheVariants.{Part, Whole}
use Rattle.framing.specs.declared.Step.{Step}
use Rattle.framing.specs.Image.{length_of}
use Rattle.framing.specs.Next.{next_of, meet_of, ending_of}
use Rattle.framing.specs.Cuts.{part}
use Rattle.framing.proofs.Forward.{forward}
use Rattle.listing.specs.Lent.{line_room, line_in, line_end}
use Rattle.listing.proofs.Longest.{line_length, last_length}
use Rattle.files.specs.declared.File.{File}
use Rattle.files.specs.declared.File.TheVariants.{Empty, Heading, Large, Refused, Blocks, Traces}
use Rattle.lister.specs.declared.Progress.{Progress}
use Rattle.lister.specs.declared.Made.{Made}
use Rattle.lister.specs.Listing.{header_room}
use Rattle.files.specs.File.{said_of}
use Rattle.lister.specs.Turn.{Lister, next_number, said_at, text_by, heard_file, turned, turns, walked}
use Rattle.lister.specs.Calls.{least_file, roomy, made_by, last_by}
use Rattle.lister.proofs.Onward.{still}
use Rattle.listing.specs.declared.Listed.{Listed}
use Rattle.listing.specs.declared.TurnedAway.{TurnedAway}

-- ---- roomy buffers
pub record Roomy (n : ℕ) (header : List ℕ) (numbers : List ℤ) (lines : List ℕ) : Type 0 where
  pub size : length header ≡ header_room
  pub half : n ≤ length numbers / 2
  pub some : n / least_file < length lines / line_room

pub roomy_is : (n : ℕ) (header : List ℕ) (numbers : List ℤ) (lines : List ℕ) → roomy n header numbers lines ≡ true → Roomy n header numbers lines
roomy_is n header numbers lines e =
    let a = and_true _ (ltb (n / least_file) (length lines / line_room)) e in
    let b = and_true _ (leb n (length numbers / 2)) a.0 in
    record { size = eqb-true _ _ b.0; half = leb-true _ _ b.1; some = ltb-true _ _ a.1 }

pub is_roomy : (n : ℕ) (header : List ℕ) (numbers : List ℤ) (lines : List ℕ) → Roomy n header numbers lines → roomy n header numbers lines ≡ true
is_roomy n header numbers lines r =
    rw (eq-eqb (length header) header_room r.size, le-leb n (length numbers / 2) r.half, lt-ltb (n / least_file) (length lines / line_room) r.some)

-- ---- how many bytes of the nine are passed, by the frame and whether the file has a byte
abbrev base : Bool → ℕ
base true = 5
base false = 0

abbrev spent : Frame → Bool → ℕ
spent Start b = base b
spent (Length m) b = base b
spent (Second m x) b = base b + 1
spent (Third m x y) b = base b + 2
spent (Fourth m x y z) b = base b + 3
spent (Item n) true = 5
spent (Item n) false = 4
spent Over b = base b
spent Wrong b = base b

abbrev has : File → Bool
has Empty = false
has (Heading got) = true
has Large = true
has (Refused r) = true
has (Blocks b) = true
has (Traces t) = true

base_most : (b : Bool) → base b ≤ 5
base_most true = omega arith
base_most false = omega arith

item_most : (n : ℕ) (b : Bool) → (4 ≤ spent (Item n) b) × (spent (Item n) b ≤ 5) × (spent (Item n) b ≤ base b + 4)
item_most n true = (omega arith, omega arith, omega arith)
item_most n false = (omega arith, omega arith, omega arith)

spent_most : (f : Frame) (b : Bool) → spent f b ≤ 8
spent_most Start b = omega (arith, base_most b)
spent_most (Length m) b = omega (arith, base_most b)
spent_most (Second m x) b = omega (arith, base_most b)
spent_most (Third m x y) b = omega (arith, base_most b)
spent_most (Fourth m x y z) b = omega (arith, base_most b)
spent_most (Item n) b = omega (arith, (item_most n b).1)
spent_most Over b = omega (arith, base_most b)
spent_most Wrong b = omega (arith, base_most b)

-- how many lines are said
abbrev pub made : Option (Result Listed TurnedAway) → ℕ
made None = 0
made (Some o) = 1

text_length : (s : Option (Result Listed TurnedAway)) (count : ℕ) → length (text_by s count) ≤ line_room * made s
text_length None count = omega arith
text_length (Some o) count = omega (arith, line_length (next_number count) o)

-- a line is said only of a file that has a byte
said_made : (f : File) → least_file * made (said_of f) ≤ base (has f) + 4
said_made Empty = omega arith
said_made (Heading got) = omega arith
said_made Large = omega arith
said_made (Refused r) = omega arith
said_made (Blocks b) = omega arith
said_made (Traces t) = omega arith

-- a step: a line is made only by the last of nine bytes
module _ (g : File) (p header : List ℕ) (numbers : List ℤ) where
  abbrev later : Step → ℕ
  later s = least_file * made (said_at g s.met) + spent s.frame (has (heard_file g s.met p header numbers))

  meet_pays : (f : Frame) (x at end : ℕ) → later (meet_of f x at end) ≤ spent f (has g) + 1
  meet_pays Start x at end = pick_both (λ (f : Frame). least_file * 0 + spent f (has g) ≤ base (has g) + 1) (eqb x 1) (omega arith) (omega arith)
  meet_pays (Length m) x at end = omega arith
  meet_pays (Second m a) x at end = omega arith
  meet_pays (Third m a b) x at end = omega arith
  meet_pays (Fourth m a b c) x at end =
      let e = said_made g in
      pick_both (λ (s : Step). later s ≤ base (has g) + 3 + 1) (eqb (length_of (a ∷ b ∷ c ∷ x ∷ [])) 0)
      (pick_both (λ (f : Frame). least_file * made (said_of g) + spent f false ≤ base (has g) + 3 + 1) m (omega (arith, e)) (omega (arith, e)))
      (omega (arith, (item_most (length_of (a ∷ b ∷ c ∷ x ∷ []) - 1) (has g)).2))
  meet_pays (Item n) x at end =
      pick_both (λ (s : Step). later s ≤ spent (Item n) (has g) + 1) (ltb n (end - at))
      (omega (arith, (item_most n (has g)).0, base_most (has (heard_file g Whole p header numbers))))
      (omega (arith, (item_most n (has g)).0, (item_most (n - (end - at)) (has (heard_file g Part p header numbers))).1))
  meet_pays Over x at end = omega arith
  meet_pays Wrong x at end = omega arith

  next_pays : (f : Frame) (bytes : List ℕ) (at : ℕ) → at < length bytes → later (next_of f bytes at) ≤ spent f (has g) + 1
  unfolding pick
  next_pays f bytes at h = rw (lt-leb (length bytes) at h) (meet_pays f (get_or bytes at 0) at (length bytes))

-- ---- at a place of a portion: no more than so many lines are made
pub record Few (s : Lister) (at : ℕ) : Type 0 where
  pub lines : ℕ
  pub long : length s.out ≤ line_room * lines
  pub few : least_file * lines + spent s.progress.frame (has s.progress.file) ≤ at + 8

pub none_yet : (t : Progress) (header : List ℕ) (numbers : List ℤ) → Few (record { progress = t; header = header; numbers = numbers; out = [] }) 0
none_yet t header numbers = record { lines = 0; long = omega arith; few = omega (arith, spent_most t.frame (has t.file)) }

module _ (s : Lister) (bytes : List ℕ) (at : ℕ) (f : Few s at) where
  abbrev pub said : Option (Result Listed TurnedAway)
  said = said_at s.progress.file (next_of s.progress.frame bytes at).met

  pays : at < length bytes
      → least_file * made said + spent (turned s bytes at).progress.frame (has (turned s bytes at).progress.file) ≤ spent s.progress.frame (has s.progress.file) + 1
  pays h = next_pays s.progress.file (part at (next_of s.progress.frame bytes at).to bytes) s.header s.numbers s.progress.frame bytes at h

  pub turned_few : at < length bytes → Few (turned s bytes at) (next_of s.progress.frame bytes at).to
  turned_few h =
      let t = text_length said s.progress.count in
      let w = forward s.progress.frame bytes at h in
      let c = pays h in
      record {
        lines = f.lines + made said;
        long = simp length-append (omega (arith, t, f.long));
        few = omega (arith, f.few, c, w.grows);
      }

  -- where the step makes a line, there is room for it
  pub due : (header : List ℕ) (numbers : List ℤ) (lines : List ℕ) → Roomy (length bytes) header numbers lines → at < length bytes → made said ≡ 1
      → length s.out + line_room ≤ length lines
  due header numbers lines r h e =
      let c = pays h in
      omega (arith, f.long, f.few, r.some, c, e)

turns_few : (k : ℕ) (s : Lister) (bytes : List ℕ) (at : ℕ) → at ≤ length bytes → Few s at → Few (turns k s bytes at) (length bytes)
turns_few zero s bytes at h f = record { lines = f.lines; long = f.long; few = omega (arith, f.few) }
turns_few (suc k) s bytes at h f = go (λ r to p q. turns_few k r bytes to p q) (leb (length bytes) at) refl
  where
    go : ((r : Lister) (to : ℕ) → to ≤ length bytes → Few r to → Few (turns k r bytes to) (length bytes))
        → (t : Bool) → leb (length bytes) at ≡ t → Few (turns k (turned s bytes at) bytes (next_of s.progress.frame bytes at).to) (length bytes)
    go on true e = let w = still s bytes at (leb-true (length bytes) at e) in rw (w.0, w.1) (on s at h f)
    go on false e =
        let k : at < length bytes = leb-false (length bytes) at e in
        on (turned s bytes at) (next_of s.progress.frame bytes at).to (forward s.progress.frame bytes at k).stays (turned_few s bytes at f k)

-- all the lines of a portion have room
pub walked_short : (t : Progress) (bytes header : List ℕ) (numbers : List ℤ) (lines : List ℕ) → Roomy (length bytes) header numbers lines → length (walked t bytes header numbers).out ≤ length lines
unfolding walked
walked_short t bytes header numbers lines r =
    let f = turns_few (length bytes) (record { progress = t; header = header; numbers = numbers; out = [] }) bytes 0 zero-le (none_yet t header numbers) in
    omega (arith, f.long, f.few, r.some)

-- so what is answered is within the buffer that is left,
pub walked_within : (t : Progress) (bytes header : List ℕ) (numbers : List ℤ) (lines : List ℕ) {r : Made} {left : List ℕ} → Roomy (length bytes) header numbers lines
    → r ≡ made_by (walked t bytes header numbers) → left ≡ sets lines 0 (walked t bytes header numbers).out → r.length ≤ length left
walked_within t bytes header numbers lines room e l =
    rw (e, l, length-sets lines 0 (walked t bytes header numbers).out) (walked_short t bytes header numbers lines room)

-- and the last line too
pub last_within : (t : Progress) (lines : List ℕ) {r : ℕ} {left : List ℕ} → r ≡ line_end lines 0 (last_by t) → left ≡ line_in lines 0 (last_by t) → r ≤ length left
unfolding pick
last_within t lines e l = rw (e, l) (go (ltb (length lines) (0 + line_room)) refl)
  where
    go : (b : Bool) → ltb (length lines) (0 + line_room) ≡ b → pick b 0 (0 + length (last_by t)) ≤ length (pick b lines (sets lines 0 (last_by t)))
    go true e = zero-le
    go false e = rw (length-sets lines 0 (last_by t)) (omega (arith, ltb-false (length lines) (0 + line_room) e, last_length (ending_of t.frame)))
