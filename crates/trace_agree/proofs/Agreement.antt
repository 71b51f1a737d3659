-- Demand 3 for trace bodies: from any header block of an 80xx code that is accepted, and whatever the calls, the reader does what the rules say.
-- Assumes nothing.
use Rattle.std.specs.Prelude.{Ok}
use Prim.Native.Nat.{ℕ, zero, suc, ◌-◌, ◌*◌, ◌≤◌}
use mathlib.Core.Path.{◌≡◌, refl, sym, ap, ◌∙◌}
use mathlib.Core.Bool.{Bool, true, false}
use mathlib.Core.List.{List, [], ◌∷◌, ◌++◌}
use native.Mathlib.Omega.{arith}
use lib.Dec.{ltb}
use lib.IntN.{ℤ}
use lib.ListN.{length, length-append}
use borrow.Author.Tests.{le-leb}
use Rattle.basis.specs.Choice.{pick}
use Rattle.basis.specs.Upto.{upto, list_upto, sum_upto}
use Rattle.general.specs.General.{code_of}
use Rattle.header.specs.Faults.{header_fault}
use Rattle.header.proofs.Accepted.{sizes}
use Rattle.rules.specs.Tape.{Body, ends, start_of, byte_at}
use Rattle.trace_rules.specs.Samples.{numbers_at}
use Rattle.trace_rules.specs.Outcome.{done_in, numbers_in, done_before, numbers_before, stop_of, done_of, numbers_of, closing}
use Rattle.trace.specs.declared.State.{State}
use Rattle.trace.specs.Fit.{fitb}
use Rattle.trace_stream.specs.Calls as K
use Rattle.trace_body.specs.Calls as L
use Rattle.trace_body.specs.Open as O
use Rattle.trace.proofs.Facts.{of_fit}
use Rattle.trace_body.proofs.BlockEnds.{fit_fresh}
use Rattle.agree.specs.Calls.{Call, put, end, Bytes, BytesIn, taken, body_of}
use Rattle.agree.specs.Answers.{closed_of}
use Rattle.agree.proofs.Bytes.{small}
use Rattle.agree.proofs.Agreement.{twice, by_stops, bytes_more}
use Rattle.trace_agree.specs.Calls.{Reading, read_on, reading_of}
use Rattle.trace_agree.specs.Answers.{answer_to}
use Rattle.trace_agree.specs.Agreement.{Agreement, TurnedAway}
use Rattle.trace_agree.proofs.Whole.{stop_in, AgreesAt, agree_pieces}
use Rattle.trace_agree.proofs.Public.{close_fits, portion_answer, room_answer_lem, end_answer, run_of, read_fits, read_pieces, read_append}

-- two numbers for each sample of a list of lists
twice_all : (f : ℕ → List ℤ) (g : ℕ → ℕ) → ((i : ℕ) → length (f i) ≡ 2 * g i) → (n : ℕ) → length (list_upto f n) ≡ 2 * sum_upto g n
unfolding upto
twice_all f g h zero = refl
twice_all f g h (suc n) = let r = twice_all f g h n in rw (length-append, r, h n) (omega arith)

numbers_length : (b : List ℕ) (d : Body) (p : ℕ) → length (numbers_before b d p) ≡ 2 * done_before b d p
unfolding numbers_at
numbers_length b d p =
    twice_all (numbers_in b d p) (done_in b d p) (λ k. twice (numbers_at (code_of b) (byte_at d) (start_of d k)) (λ i. refl) (done_in b d p k)) (suc (ends d))

samples_length : (b : List ℕ) (d : Body) → length (numbers_of b d) ≡ 2 * done_of b d
samples_length b d = numbers_length b d _

module _ (b : List ℕ) (clear : header_fault b ≡ Ok tt) (demuxed : 0x8000 ≤ code_of b) where
  opened_state : O.opened b ≡ O.fresh (code_of b)
  unfolding O.opened pick
  opened_state = rw (clear, le-leb 0x8000 (code_of b) demuxed)

  opened_fits : fitb b (O.opened b) ≡ true
  opened_fits = rw opened_state (of_fit b (O.fresh (code_of b)) (fit_fresh b demuxed))

  abbrev opening : Reading
  opening = record { state = O.opened b; numbers = [] }

  at : (cs : List Call) (h : BytesIn cs) → AgreesAt b (sizes b clear) (body_of cs) (small cs h) (run_of b clear (reading_of b cs))
  at cs h = rw (read_pieces b clear opening opened_fits cs, opened_state) (agree_pieces b (sizes b clear) (taken cs) (small cs h))

  fits : (cs : List Call) → fitb b (reading_of b cs).state ≡ true
  fits cs = read_fits b clear opening opened_fits cs

  length_at : (cs : List Call) → BytesIn cs → length (reading_of b cs).numbers ≡ 2 * done_of b (body_of cs)
  length_at cs h = ap length (at cs h).samples ∙ samples_length b (body_of cs)

  closes_at : (cs : List Call) → BytesIn cs → L.close b (reading_of b cs).state ≡ closed_of (closing b (body_of cs))
  closes_at cs h = close_fits b clear (reading_of b cs).state (fits cs) ∙ (at cs h).closes

  -- ---- each call's own answer
  then : (cs : List Call) (c : Call) → reading_of b (cs ++ (c ∷ [])) ≡ read_on b (reading_of b cs) (c ∷ [])
  then cs c = read_append b clear opening cs (c ∷ [])

  module _ (cs : List Call) (h : BytesIn cs) where
    abbrev now : State
    now = (reading_of b cs).state

    -- so many samples more
    more : (c : Call) → BytesIn (c ∷ []) → 2 * done_of b (body_of (cs ++ (c ∷ []))) ≡ length (read_on b (reading_of b cs) (c ∷ [])).numbers
    more c l = sym (length_at (cs ++ (c ∷ [])) (bytes_more cs c h l)) ∙ ap (λ (x : Reading). length x.numbers) (then cs c)

    stop_more : (c : Call) → BytesIn (c ∷ []) → stop_in b (read_on b (reading_of b cs) (c ∷ [])).state ≡ stop_of b (body_of (cs ++ (c ∷ [])))
    stop_more c l = sym (ap (λ (x : Reading). stop_in b x.state) (then cs c)) ∙ (at (cs ++ (c ∷ [])) (bytes_more cs c h l)).stops

    portion_at : (bs : List ℕ) (room : ℕ) → Bytes bs → (K.portion b now bs room).answer ≡ answer_to b cs (put bs room)
    unfolding pick
    portion_at bs room l = go (ltb room (2 * length bs)) refl
      where
        go : (t : Bool) → ltb room (2 * length bs) ≡ t → (K.portion b now bs room).answer ≡ answer_to b cs (put bs room)
        go true e = rw (e, ← (at cs h).stops) (room_answer_lem b clear now (fits cs) bs room e)
        go false e =
            let n = done_of b (body_of (cs ++ (put bs room ∷ []))) - done_of b (body_of cs) in
            rw e
            (by_stops n (at cs h).stops (stop_more (put bs room) (l, tt))
            (portion_answer b clear now (fits cs) bs room n e
            (omega (arith, more (put bs room) (l, tt), length_at cs h, length-append (reading_of b cs).numbers (K.portion_wrote b now bs room)))))

    end_at : (L.block_end b now).answer ≡ answer_to b cs end
    end_at =
        let n : done_of b (body_of (cs ++ (end ∷ []))) - done_of b (body_of cs) ≡ 0 = omega (arith, more end tt, length_at cs h) in
        rw n (by_stops 0 (at cs h).stops (stop_more end tt) (end_answer b clear now (fits cs)))

-- From every header block of an 80xx code that is accepted, and whatever the calls.
pub agreement : Agreement
agreement b e m cs l =
    record {
      fit = fits b e m cs;
      samples = (at b e m cs l).samples;
      portions = portion_at b e m cs l;
      ends = end_at b e m cs l;
      closes = closes_at b e m cs l;
    }

-- A header block that is turned away answers every call with its refusal.
pub turned_away : TurnedAway
unfolding K.portion K.portion_wrote L.block_end L.close
turned_away b r e = record { portions = λ s bs room. rw e; writes = λ s bs room. rw e; ends = λ s. rw e; closes = λ s. rw e }
