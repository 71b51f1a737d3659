-- One step of a reader over an image that comes in portions: what `next` and `close` answer.
-- Assumes nothing.
use Rattle.std.specs.Prelude.{ℕ, ◌+◌, ◌-◌, Bool, true, false, List, [], ◌∷◌, ltb, leb, eqb, length, get_or}
use Rattle.basis.specs.Choice.{pick}
use Rattle.framing.specs.declared.Frame.{Frame}
use Rattle.framing.specs.declared.Frame.TheVariants.{Start, Length, Second, Third, Fourth, Item, Over, Wrong}
use Rattle.framing.specs.declared.Met.TheVariants.{Framing, Part, Whole, Mark}
use Rattle.framing.specs.declared.Step.{Step}
use Rattle.framing.specs.declared.Ending.{Ending}
use Rattle.framing.specs.declared.Ending.TheVariants.{Ok, Cut, Version}
use Rattle.framing.specs.Image.{length_of}

-- bytes of the framing, up to a place
abbrev pub passed_to : Frame → ℕ → Step
passed_to f to = record { frame = f; to = to; met = Framing }

-- the version byte is 1, or the image is no reel of ours
abbrev pub after_version : ℕ → ℕ → Step
after_version x to = passed_to (pick (eqb x 1) (Length false) Wrong) to

-- a length of 0 is a mark, and the second in a row ends the reel
abbrev pub after_length : Bool → ℕ → ℕ → Step
after_length marked n to =
    pick (eqb n 0)
    (record { frame = pick marked Over (Length true); to = to; met = Mark })
    (passed_to (Item (n - 1)) to)

-- the item's last byte stands in this portion, or it goes on past the end
abbrev pub in_item : ℕ → ℕ → ℕ → Step
in_item after at end =
    pick (ltb after (end - at))
    (record { frame = Length false; to = at + after + 1; met = Whole })
    (record { frame = Item (after - (end - at)); to = end; met = Part })

-- from a place where the byte x stands
abbrev pub meet_of : Frame → ℕ → ℕ → ℕ → Step
meet_of Start x at end = after_version x (at + 1)
meet_of (Length m) x at end = passed_to (Second m x) (at + 1)
meet_of (Second m a) x at end = passed_to (Third m a x) (at + 1)
meet_of (Third m a b) x at end = passed_to (Fourth m a b x) (at + 1)
meet_of (Fourth m a b c) x at end = after_length m (length_of (a ∷ b ∷ c ∷ x ∷ [])) (at + 1)
meet_of (Item after) x at end = in_item after at end
meet_of Over x at end = passed_to Over end
meet_of Wrong x at end = passed_to Wrong end

-- from any place of a portion; past its end nothing moves
abbrev pub next_of : Frame → List ℕ → ℕ → Step
next_of f bytes at = pick (leb (length bytes) at) (passed_to f at) (meet_of f (get_or bytes at 0) at (length bytes))

-- "`reel ok`; `reel cut` if input ends early, empty input included; or `reel version`"
abbrev pub ending_of : Frame → Ending
ending_of Start = Cut
ending_of (Length m) = Cut
ending_of (Second m a) = Cut
ending_of (Third m a b) = Cut
ending_of (Fourth m a b c) = Cut
ending_of (Item after) = Cut
ending_of Over = Ok
ending_of Wrong = Version
