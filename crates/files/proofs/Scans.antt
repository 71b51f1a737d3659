-- What the reader of scans gives a file: every state reached is fit, a portion's numbers have room, and the closing answer is the rules'.
-- Assumes nothing.
use Rattle.std.specs.Prelude.{Ok}
use Prim.Native.Nat.{ℕ, ◌*◌, ◌≤◌, ◌<◌}
use mathlib.Core.Path.{◌≡◌, refl, sym, ap, ◌∙◌}
use mathlib.Core.Bool.{true}
use mathlib.Core.List.{List, [], ◌∷◌, ◌++◌}
use native.Mathlib.Omega.{arith}
use borrow.Author.Tests.{ltb-false}
use lib.Dec.{eqb, ltb}
use lib.IntN.{ℤ}
use lib.ListN.{length, length-append, length-drop}
use Rattle.general.specs.General.{code_of}
use Rattle.header.specs.declared.Header.{Header}
use Rattle.header.specs.Answers.{header_answer}
use Rattle.scan.specs.declared.State.{State}
use Rattle.scan.specs.Step.{after}
use Rattle.scan.specs.Fit.{fitb}
use Rattle.scan.proofs.Choices.{pick_cases}
use Rattle.scan.proofs.Fold.{wrote_length}
use Rattle.scan.proofs.Keep.{fit_after}
use Rattle.scan.proofs.Shapes.{fit_of, of_fit}
use Rattle.runs.specs.Runs.{over}
use Rattle.rules.specs.Tape.{Body}
use Rattle.rules.specs.Scans.{shape_of}
use Rattle.rules.specs.Outcome.{closing}
use Rattle.stream.specs.Calls.{portion, portion_wrote, fit_wrote}
use Rattle.body.specs.Ends.{block_end, close}
use Rattle.body.specs.Open.{opened}
use Rattle.stream.proofs.Cuts.{portion_state, portion_fit}
use Rattle.body.proofs.BlockEnds.{end_fit}
use Rattle.agree.specs.Calls.{Bytes, read_on}
use Rattle.agree.specs.Answers.{closed_of}
use Rattle.agree.proofs.Agreement.{agreement}
use Rattle.files.specs.Outcomes.{body_in}
use Rattle.files.proofs.Items.{Items}
use Rattle.files.proofs.Blocks.{state_after, body_fit, calls_of, calls_bytes, calls_spell}

-- an accepted header of a multiplexed code opens a fit state
pub open_fit : (b : List ℕ) (h : Header) → Bytes b → header_answer b ≡ Ok h → code_of b < 0x8000 → fitb (opened b).state ≡ true
open_fit b h bytes e m = (agreement b bytes h e m [] tt).fit

pub after_fit : (s : State) (bs : List ℕ) → fitb s ≡ true → fitb (after s bs) ≡ true
after_fit s bs f = of_fit (after s bs) (fit_after s bs (fit_of s f))

pub after_none : (s : State) → after s [] ≡ s
unfolding after
after_none s = refl

pub over_length : (w out : List ℤ) → length w ≤ length out → length (over w out) ≡ length out
unfolding over
over_length w out h = simp (length-append, length-drop) (omega arith)

-- what a portion writes is within the output
wrote_few : (s : State) (bs : List ℕ) (room : ℕ) → length (portion_wrote s bs room) ≤ room
unfolding portion_wrote fit_wrote
wrote_few s bs room =
    pick_cases P (fitb s)
    (λ f. pick_cases P (eqb s.stop 0)
    (λ e. pick_cases P (ltb room (2 * length bs)) (λ l. omega arith) (λ l. let h : 2 * length bs ≤ room = ltb-false room (2 * length bs) l in omega (arith, wrote_length s bs)))
    (λ e. omega arith))
    (λ f. omega arith)
  where
    P : List ℤ → Type 0
    P l = length l ≤ room

pub numbers_length : (s : State) (bs : List ℕ) (out : List ℤ) → length (over (portion_wrote s bs (length out)) out) ≡ length out
numbers_length s bs out = over_length (portion_wrote s bs (length out)) out (wrote_few s bs (length out))

-- ---- whole blocks
abbrev pub ends : State → State
ends s = (block_end s).state

reach : (s : State) (w : List ℤ) (xs : List (List ℕ)) → fitb s ≡ true → (read_on (record { state = s; numbers = w }) (calls_of xs)).state ≡ state_after after ends s xs
reach s w [] f = refl
reach s w (x ∷ xs) f =
    let room : 2 * length x ≤ 2 * length x = omega arith in
    reach (ends (portion s x (2 * length x)).state) (w ++ portion_wrote s x (2 * length x)) xs (end_fit _ (portion_fit s x (2 * length x) f))
    ∙ ap (λ (t : State). state_after after ends (ends t) xs) (portion_state s x (2 * length x) room f)

-- fit after some blocks
pub blocks_fit : (s : State) (blocks : List (List ℕ)) → fitb s ≡ true → fitb (state_after after ends s blocks) ≡ true
blocks_fit = body_fit after ends fitb after_fit end_fit

-- the closing answer after some blocks
pub closes : (b : List ℕ) (h : Header) → Bytes b → header_answer b ≡ Ok h → code_of b < 0x8000 → (xs : List (List ℕ)) → Items xs
    → close (state_after after ends (opened b).state xs) ≡ closed_of (closing (shape_of b) (body_in xs))
closes b h bytes e m xs p =
    ap close (sym (reach (opened b).state [] xs (open_fit b h bytes e m)))
    ∙ (agreement b bytes h e m (calls_of xs) (calls_bytes xs p)).closes
    ∙ ap (λ (d : Body). closed_of (closing (shape_of b) d)) (calls_spell xs)
