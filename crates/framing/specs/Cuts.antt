-- An image that comes in portions, cut anywhere: what a reader that goes on by `next` is told, and that it is what the whole image holds.
-- Assumes nothing.
use Rattle.std.specs.Prelude.{ℕ, zero, suc, ◌-◌, ◌≡◌, List, [], ◌∷◌, ◌++◌, map, length, take, drop}
use Rattle.framing.specs.declared.Frame.{Frame}
use Rattle.framing.specs.declared.Frame.TheVariants.{Start}
use Rattle.framing.specs.declared.Met.{Met}
use Rattle.framing.specs.declared.Met.TheVariants.{Framing, Part, Whole, Mark}
use Rattle.framing.specs.Image.{Reading, reading_of}
use Rattle.framing.specs.Next.{next_of, ending_of}

-- what is told of an image, byte by byte: an item's byte, the end of an item, a mark
pub data Event : Type 0 where
  byte : ℕ → Event
  close : Event
  mark : Event

-- what is to be told of an item, a mark being one without bytes
abbrev pub item_told : List ℕ → List Event
item_told [] = mark ∷ []
item_told (b ∷ bs) = map byte (b ∷ bs) ++ (close ∷ [])

-- of items one after another
abbrev pub items_told : List (List ℕ) → List Event
items_told [] = []
items_told (i ∷ is) = item_told i ++ items_told is

-- what is to be told of a whole image
abbrev pub told_of : Reading → List Event
told_of r = items_told r.items ++ map byte r.tail

-- what one answer of `next` tells, where it passed the bytes given
abbrev pub tells : Met → List ℕ → List Event
tells Framing bytes = []
tells Part bytes = map byte bytes
tells Whole bytes = map byte bytes ++ (close ∷ [])
tells Mark bytes = mark ∷ []

-- the bytes from place at up to place to
abbrev pub part : ℕ → ℕ → List ℕ → List ℕ
part at to bytes = take (to - at) (drop at bytes)

-- where a reader came to, and what it was told on the way
pub record Walk : Type 0 where
  pub frame : Frame
  pub told : List Event

-- what was told before, then a walk
abbrev pub after : List Event → Walk → Walk
after ts w = record { frame = w.frame; told = ts ++ w.told }

-- so many answers of `next` one after another, over one portion
abbrev pub walk : ℕ → Frame → List ℕ → ℕ → Walk
walk zero f bytes at = record { frame = f; told = [] }
walk (suc turns) f bytes at =
    after (tells (next_of f bytes at).met (part at (next_of f bytes at).to bytes))
    (walk turns (next_of f bytes at).frame bytes (next_of f bytes at).to)

-- portion after portion, each from its first byte until all are used
abbrev pub walks : Frame → List (List ℕ) → Walk
walks f [] = record { frame = f; told = [] }
walks f (p ∷ ps) = after (walk (length p) f p 0).told (walks (walk (length p) f p 0).frame ps)

-- the image that the portions make
abbrev pub joined : List (List ℕ) → List ℕ
joined [] = []
joined (p ∷ ps) = p ++ joined ps

-- a walk was told what the image holds, and ends as it ends
pub record ToldWhole (r : Reading) (w : Walk) : Type 0 where
  pub told : w.told ≡ told_of r
  pub ending : ending_of w.frame ≡ r.ending

-- "reads a reel image from standard input": however the image is cut into portions, its items, its marks and its ending are those of the whole
abbrev pub Framed : Type 0
Framed = (portions : List (List ℕ)) → ToldWhole (reading_of (joined portions)) (walks Start portions)
