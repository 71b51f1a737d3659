-- What the reader of traces gives a file, its header block lent at every call: every state reached is fit, a portion's numbers have room, and the
-- closing answer is the rules'.
-- Assumes nothing.
use Rattle.std.specs.Prelude.{Err, Ok, Result, ⊤, Option, Some, None}
use Prim.Native.Nat.{ℕ, ◌*◌, ◌≤◌}
use mathlib.Core.Path.{◌≡◌, refl, sym, ap, ◌∙◌}
use mathlib.Core.Bool.{true}
use mathlib.Core.List.{List, [], ◌∷◌, ◌++◌}
use native.Mathlib.Omega.{arith}
use borrow.Author.Tests.{le-ltb, ltb-false}
use Rattle.basis.proofs.Choices.{pick_both}
use Rattle.scan.proofs.Choices.{pick_cases}
use lib.Dec.{ltb}
use lib.IntN.{ℤ}
use lib.ListN.{length, length-append}
use Rattle.general.specs.General.{code_of}
use Rattle.header.specs.Faults.{header_fault}
use Rattle.rules.specs.Tape.{Body}
use Rattle.trace_rules.specs.Outcome.{closing}
use Rattle.trace.specs.declared.State.{State}
use Rattle.runs.specs.Runs.{over}
use Rattle.words.specs.declared.Value.{Value}
use Rattle.scan.specs.Step.{m_then_x, m_and_x}
use Rattle.trace.specs.Step.{step_on, after, wrote}
use Rattle.trace.specs.Fit.{fitb}
use Rattle.trace_stream.specs.Calls.{portion, fit_wrote, checked_wrote, portion_wrote}
use Rattle.trace_body.specs.Calls.{block_end, close}
use Rattle.trace_body.specs.Open.{opened}
use Rattle.trace.proofs.Facts.{fit_of, of_fit}
use Rattle.trace.proofs.Keep.{fit_after}
use Rattle.agree.specs.Answers.{closed_of}
use Rattle.trace_agree.specs.Calls.{read_on}
use Rattle.trace_agree.proofs.Agreement.{agreement}
use Rattle.trace_agree.proofs.Public.{portion_state, fit_portion_lem, fit_block_end}
use Rattle.files.specs.Outcomes.{body_in}
use Rattle.files.proofs.Items.{Items}
use Rattle.files.proofs.Scans.{over_length}
use Rattle.files.proofs.Blocks.{state_after, body_fit, calls_of, calls_bytes, calls_spell}
use Rattle.refusals.specs.declared.Refusal.{Refusal}

pub after_append : (b : List ℕ) (s : State) (xs ys : List ℕ) → after b s (xs ++ ys) ≡ after b (after b s xs) ys
unfolding after
after_append b s [] ys = refl
after_append b s (x ∷ xs) ys = after_append b (step_on b s x).state xs ys

pub after_none : (b : List ℕ) (s : State) → after b s [] ≡ s
unfolding after
after_none b s = refl

-- ---- what a portion writes is within the output
two_at_most : (v : Option Value) → length (m_then_x v) ≤ 2
two_at_most None = omega arith
two_at_most (Some v) = omega arith

step_wrote : (b : List ℕ) (s : State) (x : ℕ) → length (m_and_x (step_on b s x)) ≤ 2
unfolding m_and_x
step_wrote b s x = two_at_most (step_on b s x).value

wrote_length : (b : List ℕ) (s : State) (bs : List ℕ) → length (wrote b s bs) ≤ 2 * length bs
unfolding wrote
wrote_length b s [] = omega arith
wrote_length b s (x ∷ xs) = rw length-append (omega (arith, step_wrote b s x, wrote_length b (step_on b s x).state xs))

wrote_few : (b : List ℕ) (s : State) (bs : List ℕ) (room : ℕ) → length (portion_wrote b s bs room) ≤ room
unfolding portion_wrote fit_wrote
wrote_few b s bs room = go (header_fault b)
  where
    P : List ℤ → Type 0
    P l = length l ≤ room

    go : (f : Result ⊤ Refusal) → P (checked_wrote f (fitb b s) (fit_wrote b s bs room))
    go (Err r) = omega arith
    go (Ok tt) =
        pick_both P _
        (pick_both P _
        (pick_cases P (ltb room (2 * length bs)) (λ l. omega arith) (λ l. let h : 2 * length bs ≤ room = ltb-false room (2 * length bs) l in omega (arith, wrote_length b s bs)))
        (omega arith))
        (omega arith)

pub numbers_length : (b : List ℕ) (s : State) (bs : List ℕ) (out : List ℤ) → length (over (portion_wrote b s bs (length out)) out) ≡ length out
numbers_length b s bs out = over_length (portion_wrote b s bs (length out)) out (wrote_few b s bs (length out))

module _ (b : List ℕ) where
  abbrev pub ends : State → State
  ends s = (block_end b s).state

  -- the state after some blocks, from the opening
  abbrev pub traces_after : List (List ℕ) → State
  traces_after = state_after (after b) ends (opened b)

module _ (b : List ℕ) (clear : header_fault b ≡ Ok tt) where
  pub after_fit : (s : State) (bs : List ℕ) → fitb b s ≡ true → fitb b (after b s bs) ≡ true
  after_fit s bs f = of_fit b (after b s bs) (fit_after b s bs (fit_of b s f))

  -- a portion with room for its numbers
  pub portion_moves : (s : State) (bs : List ℕ) (room : ℕ) → 2 * length bs ≤ room → fitb b s ≡ true → (portion b s bs room).state ≡ after b s bs
  portion_moves s bs room l f = portion_state b clear s f bs room (le-ltb room (2 * length bs) l)

  reach : (s : State) (w : List ℤ) (xs : List (List ℕ)) → fitb b s ≡ true → (read_on b (record { state = s; numbers = w }) (calls_of xs)).state ≡ state_after (after b) (ends b) s xs
  reach s w [] f = refl
  reach s w (x ∷ xs) f =
      reach (ends b (portion b s x (2 * length x)).state) (w ++ portion_wrote b s x (2 * length x)) xs
      (fit_block_end b clear _ (fit_portion_lem b clear s f x (2 * length x)))
      ∙ ap (λ (t : State). state_after (after b) (ends b) (ends b t) xs) (portion_moves s x (2 * length x) (omega arith) f)

  module _ (m : 0x8000 ≤ code_of b) where
    open_fit : fitb b (opened b) ≡ true
    open_fit = (agreement b clear m [] tt).fit

    -- fit after some blocks
    pub traces_fit : (blocks : List (List ℕ)) → fitb b (traces_after b blocks) ≡ true
    traces_fit blocks = body_fit (after b) (ends b) (fitb b) after_fit (fit_block_end b clear) (opened b) blocks open_fit

    -- the closing answer after some blocks
    pub traces_close : (xs : List (List ℕ)) → Items xs → close b (traces_after b xs) ≡ closed_of (closing b (body_in xs))
    traces_close xs p =
        ap (close b) (sym (reach (opened b) [] xs open_fit))
        ∙ (agreement b clear m (calls_of xs) (calls_bytes xs p)).closes
        ∙ ap (λ (d : Body). closed_of (closing b d)) (calls_spell xs)
