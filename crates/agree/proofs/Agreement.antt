-- Demand 3: from any header block of a multiplexed code that is accepted, and whatever the calls, the reader does what the rules say of the body that the calls spell.
-- Assumes nothing.
use Rattle.std.specs.Prelude.{Ok, Result, ⊤, Err}
use Prim.Native.Nat.{ℕ, zero, suc, ◌-◌, ◌*◌, ◌<◌}
use mathlib.Core.Path.{◌≡◌, refl, sym, ap, ◌∙◌, subst}
use mathlib.Core.Bool.{Bool, true, false}
use mathlib.Core.List.{List, [], ◌∷◌, ◌++◌}
use native.Mathlib.Omega.{arith}
use lib.Dec.{ltb}
use lib.IntN.{ℤ}
use lib.ListN.{length, length-append}
use Rattle.basis.specs.Choice.{pick}
use Rattle.basis.specs.Upto.{upto, list_upto}
use Rattle.block.specs.Bytes.{byte}
use Rattle.general.specs.General.{code_of, interval_of, scan_types, scans_per_block}
use Rattle.header.specs.Faults.{header_fault}
use Rattle.header.proofs.Accepted.{types_few, sizes}
use Rattle.header.specs.Answers.{header_of, header_answer}
use Rattle.scan.specs.declared.State.{State}
use Rattle.scan.specs.Fit.{fitb}
use Rattle.stream.specs.declared.Answer.{Answer as Given}
use Rattle.body.proofs.Opens.{took, opens_scans, opens_traces, open_fit, unfit_not}
use Rattle.body.specs.declared.Opened.{Opened}
use Rattle.body.specs.declared.Body as body
use Rattle.body.specs.declared.Body.TheVariants.{Traces}
use Rattle.stream.specs.Calls as K
use Rattle.body.specs.Ends as N
use Rattle.body.specs.Open as O
use Rattle.rules.specs.Tape.{Body}
use Rattle.rules.specs.Scans.{Shape, shape_of}
use Rattle.rules.specs.Samples.{numbers_at}
use Rattle.rules.specs.Outcome.{stop_of, done_of, numbers_of, closing}
use Rattle.agree.specs.Calls.{Call, put, end, Bytes, BytesIn, Reading, read_on, reading_of, taken, body_of}
use Rattle.agree.specs.Answers.{answer_from, answer_to, closed_of}
use Rattle.agree.specs.Agreement.{Agreement, Unopened, TurnedAway, NoScans}
use Rattle.agree.proofs.Form.{head_of}
use Rattle.agree.proofs.Whole.{stop_in, AgreesAt, agree_pieces}
use Rattle.agree.proofs.Bytes.{below, small}
use Rattle.agree.proofs.Public.{portion_answer, room_answer_lem, end_answer, run_of, read_fits, read_pieces, read_append}
use Rattle.agree.proofs.Link.{plan_of, scan_same, shape_same}
use Rattle.refusals.specs.declared.Refusal.{Refusal}

-- ---- of any body
-- two numbers for each sample
pub twice : (f : ℕ → List ℤ) → ((i : ℕ) → length (f i) ≡ 2) → (n : ℕ) → length (list_upto f n) ≡ 2 * n
unfolding upto
twice f h zero = refl
twice f h (suc n) = let r = twice f h n in rw (length-append, r, h n) (omega arith)

pub by_stops : {u v u' v' : Result ⊤ Refusal} {a : Given} (n : ℕ) → u ≡ u' → v ≡ v' → a ≡ answer_from u v n → a ≡ answer_from u' v' n
by_stops {u} {v} {u'} {v'} {a} n p q e = subst (λ (x : Result ⊤ Refusal). a ≡ answer_from x v' n) p (subst (λ (y : Result ⊤ Refusal). a ≡ answer_from u y n) q e)

pub bytes_more : (cs : List Call) (c : Call) → BytesIn cs → BytesIn (c ∷ []) → BytesIn (cs ++ (c ∷ []))
bytes_more [] c h l = l
bytes_more (put bs room ∷ cs) c h l = (h.0, bytes_more cs c h.1 l)
bytes_more (end ∷ cs) c h l = bytes_more cs c h l

-- ---- of a body of scans
samples_length : (sh : Shape) (d : Body) → length (numbers_of sh d) ≡ 2 * done_of sh d
unfolding numbers_at
samples_length sh d = twice (numbers_at sh _) (λ i. refl) (done_of sh d)

module _ (b : List ℕ) (bytes : Bytes b) (clear : header_fault b ≡ Ok tt) (m : code_of b < 0x8000) where
  opened_state : (O.opened b).state ≡ O.fresh (head_of (plan_of b))
  unfolding header_answer header_of O.shape_of scans_per_block
  opened_state =
      ap (λ (x : Opened). x.state) (opens_scans b (header_of b) (rw clear) m)
      ∙ ap O.fresh (λ i. record { code = code_of b; scan = scan_same b clear m i; advance = top i; types = scan_types b; block = scans_per_block b })
    where
      top : 4096 * interval_of b ≡ 16 * interval_of b * 256
      top = omega arith

  opened_fits : fitb (O.opened b).state ≡ true
  unfolding header_answer byte
  opened_fits = open_fit b (header_of b) (λ n. below b bytes (n - 1)) (rw clear) m

  abbrev opening : Reading
  opening = record { state = (O.opened b).state; numbers = [] }

  -- the closed form's agreement, for the reader from its opening
  at : (cs : List Call) (h : BytesIn cs) → AgreesAt (plan_of b) (sizes b clear) (types_few b clear).0 (body_of cs) (small cs h) (run_of (reading_of b cs))
  at cs h =
      rw (read_pieces opening opened_fits cs, opened_state)
      (agree_pieces (plan_of b) (sizes b clear) (types_few b clear).0 (taken cs) (small cs h))

  fits : (cs : List Call) → fitb (reading_of b cs).state ≡ true
  fits cs = read_fits opening opened_fits cs

  samples_at : (cs : List Call) → BytesIn cs → (reading_of b cs).numbers ≡ numbers_of (shape_of b) (body_of cs)
  samples_at cs h = (at cs h).samples ∙ ap (λ (sh : Shape). numbers_of sh (body_of cs)) (sym (shape_same b clear m))

  stops_at : (cs : List Call) → BytesIn cs → stop_in (reading_of b cs).state ≡ stop_of (shape_of b) (body_of cs)
  stops_at cs h = (at cs h).stops ∙ ap (λ (sh : Shape). stop_of sh (body_of cs)) (sym (shape_same b clear m))

  length_at : (cs : List Call) → BytesIn cs → length (reading_of b cs).numbers ≡ 2 * done_of (shape_of b) (body_of cs)
  length_at cs h = ap length (samples_at cs h) ∙ samples_length (shape_of b) (body_of cs)

  closes_at : (cs : List Call) → BytesIn cs → N.close (reading_of b cs).state ≡ closed_of (closing (shape_of b) (body_of cs))
  unfolding N.close pick
  closes_at cs h = rw (fits cs) ((at cs h).closes ∙ ap (λ (sh : Shape). closed_of (closing sh (body_of cs))) (sym (shape_same b clear m)))

  -- ---- each call's own answer
  -- one call more
  then : (cs : List Call) (c : Call) → reading_of b (cs ++ (c ∷ [])) ≡ read_on (reading_of b cs) (c ∷ [])
  then cs c = read_append opening cs (c ∷ [])

  module _ (cs : List Call) (h : BytesIn cs) where
    abbrev now : State
    now = (reading_of b cs).state

    -- so many samples more
    more : (c : Call) → BytesIn (c ∷ []) → 2 * done_of (shape_of b) (body_of (cs ++ (c ∷ []))) ≡ length (read_on (reading_of b cs) (c ∷ [])).numbers
    more c l = sym (length_at (cs ++ (c ∷ [])) (bytes_more cs c h l)) ∙ ap (λ (x : Reading). length x.numbers) (then cs c)

    stop_more : (c : Call) → BytesIn (c ∷ []) → stop_in (read_on (reading_of b cs) (c ∷ [])).state ≡ stop_of (shape_of b) (body_of (cs ++ (c ∷ [])))
    stop_more c l = sym (ap (λ (x : Reading). stop_in x.state) (then cs c)) ∙ stops_at (cs ++ (c ∷ [])) (bytes_more cs c h l)

    portion_at : (bs : List ℕ) (room : ℕ) → Bytes bs → (K.portion now bs room).answer ≡ answer_to (shape_of b) cs (put bs room)
    unfolding pick
    portion_at bs room l = go (ltb room (2 * length bs)) refl
      where
        go : (t : Bool) → ltb room (2 * length bs) ≡ t → (K.portion now bs room).answer ≡ answer_to (shape_of b) cs (put bs room)
        go true e = rw (e, ← (stops_at cs h)) (room_answer_lem now (fits cs) bs room e)
        go false e =
            let n = done_of (shape_of b) (body_of (cs ++ (put bs room ∷ []))) - done_of (shape_of b) (body_of cs) in
            rw e
            (by_stops n (stops_at cs h) (stop_more (put bs room) (l, tt))
            (portion_answer now (fits cs) bs room n e
            (omega (arith, more (put bs room) (l, tt), length_at cs h, length-append (reading_of b cs).numbers (K.portion_wrote now bs room)))))

    end_at : (N.block_end now).answer ≡ answer_to (shape_of b) cs end
    end_at =
        let n : done_of (shape_of b) (body_of (cs ++ (end ∷ []))) - done_of (shape_of b) (body_of cs) ≡ 0 = omega (arith, more end tt, length_at cs h) in
        rw n (by_stops 0 (stops_at cs h) (stop_more end tt) (end_answer now (fits cs)))

-- From every header block of a multiplexed code that is accepted, and whatever the calls.
pub agreement : Agreement
agreement b bytes h e m cs l =
    let c = (took b h e).clear in
    record {
      fit = fits b bytes c m cs;
      samples = samples_at b bytes c m cs l;
      portions = portion_at b bytes c m cs l;
      ends = end_at b bytes c m cs l;
      closes = closes_at b bytes c m cs l;
    }

-- An all-zero state is read by no call.
unopened : (b : List ℕ) (a : Result body.Body Refusal) → O.opened b ≡ record { state = O.unfit; answer = a } → Unopened b a
unfolding K.portion K.portion_wrote N.block_end N.close pick
unopened b a e =
    record {
      opening = e;
      portions = λ bs room. rw unfit_not;
      writes = λ bs room. rw unfit_not;
      ends = rw unfit_not;
      closes = rw unfit_not;
    }

-- A header block that is turned away opens nothing, and a demultiplexed one no body of scans.
pub turned_away : TurnedAway
unfolding O.opened
turned_away b r e = unopened b (Err r) (rw e)

pub no_scans : NoScans
no_scans b h e m = unopened b (Ok Traces) (opens_traces b h e m)
