-- The reader's calls, by the machine that takes one byte or block end at a time.
-- Assumes nothing.
use Rattle.std.specs.Prelude.{Err, Ok, Result, ⊤}
use Prim.Native.Nat.{ℕ, ◌*◌, ◌/◌}
use mathlib.Core.Path.{◌≡◌, refl, sym, ap, ◌∙◌}
use mathlib.Core.Bool.{Bool, true, false}
use mathlib.Core.List.{List, [], ◌∷◌, ◌++◌, append-nil}
use native.Mathlib.Omega.{arith}
use lib.Dec.{eqb, ltb}
use lib.IntN.{ℤ}
use lib.ListN.{length}
use Rattle.basis.specs.Choice.{pick}
use Rattle.refusals.specs.declared.Refusal.TheVariants.{Room}
use Rattle.header.specs.Faults.{header_fault}
use Rattle.stream.specs.declared.Answer.TheVariants as A
use Rattle.rules.proofs.Machine.{Run}
use Rattle.trace.specs.declared.State.{State}
use Rattle.stream.specs.declared.Gave.{Gave}
use Rattle.scan.specs.Step as Scan
use Rattle.trace.specs.Step as S
use Rattle.trace.specs.Fit.{fitb}
use Rattle.trace.specs.Answers as T
use Rattle.stream.specs.Calls as C
use Rattle.trace_stream.specs.Calls as K
use Rattle.trace_body.specs.Calls as L
use Rattle.trace.proofs.Facts.{fit_of, of_fit}
use Rattle.trace.proofs.Keep.{fit_after}
use Rattle.trace_body.proofs.BlockEnds.{fit_end}
use Rattle.agree.specs.Cuts.{portion}
use Rattle.agree.specs.Calls.{Call, put, end, taken}
use Rattle.agree.specs.Answers.{answer_from, room_answer}
use Rattle.agree.proofs.Cuts.{pieces}
use Rattle.trace_agree.specs.Calls.{Reading, read_on}
use Rattle.trace_agree.proofs.Laws.{step_stopped, end_stopped}
use Rattle.trace_agree.proofs.Whole.{step_of, emit_of, end_of, stop_in, feed_after}
use Rattle.refusals.specs.declared.Refusal.{Refusal}

after_stopped : (b : List ℕ) (s : State) (bs : List ℕ) → eqb s.stop 0 ≡ false → S.after b s bs ≡ s
unfolding S.after S.still
after_stopped b s [] h = refl
after_stopped b s (x ∷ bs) h = rw (step_stopped b s x h) (after_stopped b s bs h)

wrote_stopped : (b : List ℕ) (s : State) (bs : List ℕ) → eqb s.stop 0 ≡ false → S.wrote b s bs ≡ []
unfolding S.wrote Scan.m_and_x S.still pick
wrote_stopped b s [] h = refl
wrote_stopped b s (x ∷ bs) h = rw (step_stopped b s x h) (wrote_stopped b s bs h)

module _ (b : List ℕ) (clear : header_fault b ≡ Ok tt) where
  module _ (s : State) (f : fitb b s ≡ true) where
    portion_fits : (bs : List ℕ) (room : ℕ) → K.portion b s bs room ≡ K.fit_portion b s bs room
    unfolding K.portion pick
    portion_fits bs room = rw (clear, f)

    wrote_fits : (bs : List ℕ) (room : ℕ) → K.portion_wrote b s bs room ≡ K.fit_wrote b s bs room
    unfolding K.portion_wrote pick
    wrote_fits bs room = rw (clear, f)

    end_fits : L.block_end b s ≡ L.end_gave b s
    unfolding L.block_end pick
    end_fits = rw (clear, f)

    pub close_fits : L.close b s ≡ L.finish b s
    unfolding L.close pick
    close_fits = rw (clear, f)

    fit_off : (bs : List ℕ) (room : ℕ) → eqb s.stop 0 ≡ false → K.fit_portion b s bs room ≡ record { state = s; answer = T.answered b s 0 }
    unfolding K.fit_portion pick
    fit_off bs room z = rw z

    fit_none : (bs : List ℕ) (room : ℕ) → eqb s.stop 0 ≡ true → ltb room (2 * length bs) ≡ true → K.fit_portion b s bs room ≡ C.unchanged s Room
    unfolding K.fit_portion pick
    fit_none bs room z e = rw (z, e)

    fit_on : (bs : List ℕ) (room : ℕ) → eqb s.stop 0 ≡ true → ltb room (2 * length bs) ≡ false → K.fit_portion b s bs room ≡ K.fed b s bs
    unfolding K.fit_portion pick
    fit_on bs room z e = rw (z, e)

    pub portion_state : (bs : List ℕ) (room : ℕ) → ltb room (2 * length bs) ≡ false → (K.portion b s bs room).state ≡ S.after b s bs
    unfolding K.fed
    portion_state bs room e = go (eqb s.stop 0) refl
      where
        go : (t : Bool) → eqb s.stop 0 ≡ t → (K.portion b s bs room).state ≡ S.after b s bs
        go true z = ap (λ (g : Gave State). g.state) (portion_fits bs room ∙ fit_on bs room z e)
        go false z = ap (λ (g : Gave State). g.state) (portion_fits bs room ∙ fit_off bs room z) ∙ sym (after_stopped b s bs z)

    pub portion_wrote_lem : (bs : List ℕ) (room : ℕ) → ltb room (2 * length bs) ≡ false → K.portion_wrote b s bs room ≡ S.wrote b s bs
    unfolding K.fit_wrote pick
    portion_wrote_lem bs room e = wrote_fits bs room ∙ go (eqb s.stop 0) refl
      where
        go : (t : Bool) → eqb s.stop 0 ≡ t → K.fit_wrote b s bs room ≡ S.wrote b s bs
        go true z = rw (z, e)
        go false z = rw z (sym (wrote_stopped b s bs z))

    refused_state : (bs : List ℕ) (room : ℕ) → ltb room (2 * length bs) ≡ true → (K.portion b s bs room).state ≡ s
    unfolding C.unchanged
    refused_state bs room e = go (eqb s.stop 0) refl
      where
        go : (t : Bool) → eqb s.stop 0 ≡ t → (K.portion b s bs room).state ≡ s
        go true z = ap (λ (g : Gave State). g.state) (portion_fits bs room ∙ fit_none bs room z e)
        go false z = ap (λ (g : Gave State). g.state) (portion_fits bs room ∙ fit_off bs room z)

    wrote_none : (bs : List ℕ) (room : ℕ) → ltb room (2 * length bs) ≡ true → K.portion_wrote b s bs room ≡ []
    unfolding K.fit_wrote pick
    wrote_none bs room e = wrote_fits bs room ∙ go (eqb s.stop 0) refl
      where
        go : (t : Bool) → eqb s.stop 0 ≡ t → K.fit_wrote b s bs room ≡ []
        go true z = rw (z, e)
        go false z = rw z

    pub end_state : (L.block_end b s).state ≡ end_of b s
    unfolding L.end_gave
    end_state = ap (λ (g : Gave State). g.state) end_fits

    -- ---- answers, from the stops before and after
    on_answer : (t : State) (n m : ℕ) → m ≡ n / 2 → T.answered b t n ≡ answer_from (Ok tt) (stop_in b t) m
    unfolding T.answered pick
    on_answer t n m e = rw e (go (eqb t.stop 0))
      where
        go : (x : Bool) → pick x (A.GoingOn (n / 2)) (A.Stopped (n / 2) (T.stop_of b t)) ≡ answer_from (Ok tt) (pick x (Ok tt) (Err (T.stop_of b t))) (n / 2)
        go true = refl
        go false = refl

    off_answer : eqb s.stop 0 ≡ false → (later : Result ⊤ Refusal) (m : ℕ) → T.answered b s 0 ≡ answer_from (stop_in b s) later m
    unfolding T.answered pick
    off_answer z later m = rw z

    off_room : eqb s.stop 0 ≡ false → T.answered b s 0 ≡ room_answer (stop_in b s)
    unfolding T.answered pick
    off_room z = rw z

    going : eqb s.stop 0 ≡ true → stop_in b s ≡ Ok tt
    unfolding pick
    going z = rw z

    pub portion_answer : (bs : List ℕ) (room m : ℕ) → ltb room (2 * length bs) ≡ false → 2 * m ≡ length (K.portion_wrote b s bs room)
        → (K.portion b s bs room).answer ≡ answer_from (stop_in b s) (stop_in b (K.portion b s bs room).state) m
    unfolding K.fed
    portion_answer bs room m e n = go (eqb s.stop 0) refl
      where
        go : (t : Bool) → eqb s.stop 0 ≡ t → (K.portion b s bs room).answer ≡ answer_from (stop_in b s) (stop_in b (K.portion b s bs room).state) m
        go true z =
            let q : K.portion b s bs room ≡ K.fed b s bs = portion_fits bs room ∙ fit_on bs room z e in
            let l : length (K.portion_wrote b s bs room) ≡ length (S.wrote b s bs) = ap length (portion_wrote_lem bs room e) in
            rw (q, going z) (on_answer (S.after b s bs) (length (S.wrote b s bs)) m (omega arith))
        go false z =
            let q : K.portion b s bs room ≡ record { state = s; answer = T.answered b s 0 } = portion_fits bs room ∙ fit_off bs room z in
            rw q (off_answer z (stop_in b s) m)

    pub room_answer_lem : (bs : List ℕ) (room : ℕ) → ltb room (2 * length bs) ≡ true → (K.portion b s bs room).answer ≡ room_answer (stop_in b s)
    unfolding C.unchanged
    room_answer_lem bs room e = go (eqb s.stop 0) refl
      where
        go : (t : Bool) → eqb s.stop 0 ≡ t → (K.portion b s bs room).answer ≡ room_answer (stop_in b s)
        go true z =
            let q : K.portion b s bs room ≡ C.unchanged s Room = portion_fits bs room ∙ fit_none bs room z e in
            rw (q, going z)
        go false z =
            let q : K.portion b s bs room ≡ record { state = s; answer = T.answered b s 0 } = portion_fits bs room ∙ fit_off bs room z in
            rw q (off_room z)

    pub end_answer : (L.block_end b s).answer ≡ answer_from (stop_in b s) (stop_in b (L.block_end b s).state) 0
    unfolding L.end_gave
    end_answer = go (eqb s.stop 0) refl
      where
        go : (t : Bool) → eqb s.stop 0 ≡ t → (L.block_end b s).answer ≡ answer_from (stop_in b s) (stop_in b (L.block_end b s).state) 0
        go true z = rw (end_fits, going z) (on_answer (end_of b s) 0 0 refl)
        go false z = rw (end_fits, end_stopped b s z) (off_answer z (stop_in b s) 0)

    pub fit_portion_lem : (bs : List ℕ) (room : ℕ) → fitb b (K.portion b s bs room).state ≡ true
    fit_portion_lem bs room = go (ltb room (2 * length bs)) refl
      where
        go : (t : Bool) → ltb room (2 * length bs) ≡ t → fitb b (K.portion b s bs room).state ≡ true
        go true e = rw (refused_state bs room e) f
        go false e = rw (portion_state bs room e) (of_fit b (S.after b s bs) (fit_after b s bs (fit_of b s f)))

    pub fit_block_end : fitb b (L.block_end b s).state ≡ true
    fit_block_end = rw end_state (of_fit b (end_of b s) (fit_end b s (fit_of b s f)))

  -- ---- any calls
  abbrev pub run_of : Reading → Run State ℤ
  run_of c = record { st = c.state; out = c.numbers }

  pub read_fits : (c : Reading) → fitb b c.state ≡ true → (cs : List Call) → fitb b (read_on b c cs).state ≡ true
  read_fits c f [] = f
  read_fits c f (put bs room ∷ cs) =
      read_fits (record { state = (K.portion b c.state bs room).state; numbers = c.numbers ++ K.portion_wrote b c.state bs room }) (fit_portion_lem c.state f bs room) cs
  read_fits c f (end ∷ cs) = read_fits (record { state = (L.block_end b c.state).state; numbers = c.numbers }) (fit_block_end c.state f) cs

  pub read_pieces : (c : Reading) → fitb b c.state ≡ true → (cs : List Call) → run_of (read_on b c cs) ≡ pieces (step_of b) (emit_of b) (end_of b) (run_of c) (taken cs)
  unfolding pick
  read_pieces c f [] = refl
  read_pieces c f (put bs room ∷ cs) =
      go (ltb room (2 * length bs)) refl (read_pieces c f cs)
      (read_pieces (record { state = S.after b c.state bs; numbers = c.numbers ++ S.wrote b c.state bs }) (of_fit b (S.after b c.state bs) (fit_after b c.state bs (fit_of b c.state f))) cs)
    where
      go : (t : Bool) → ltb room (2 * length bs) ≡ t
          → run_of (read_on b c cs) ≡ pieces (step_of b) (emit_of b) (end_of b) (run_of c) (taken cs)
          → run_of (read_on b (record { state = S.after b c.state bs; numbers = c.numbers ++ S.wrote b c.state bs }) cs)
          ≡ pieces (step_of b) (emit_of b) (end_of b) (record { st = S.after b c.state bs; out = c.numbers ++ S.wrote b c.state bs }) (taken cs)
          → run_of (read_on b (record { state = (K.portion b c.state bs room).state; numbers = c.numbers ++ K.portion_wrote b c.state bs room }) cs)
          ≡ pieces (step_of b) (emit_of b) (end_of b) (run_of c) (pick (ltb room (2 * length bs)) (taken cs) (portion bs ∷ taken cs))
      go true e x y = rw (refused_state c.state f bs room e, wrote_none c.state f bs room e, append-nil c.numbers, e) x
      go false e x y =
          rw (portion_state c.state f bs room e, portion_wrote_lem c.state f bs room e, e)
          (y ∙ ap (λ (x : Run State ℤ). pieces (step_of b) (emit_of b) (end_of b) x (taken cs)) (sym (feed_after b (run_of c) bs)))
  read_pieces c f (end ∷ cs) =
      ap (λ (s : State). run_of (read_on b (record { state = s; numbers = c.numbers }) cs)) (end_state c.state f)
      ∙ read_pieces (record { state = end_of b c.state; numbers = c.numbers }) (rw (end_state c.state f) at (fit_block_end c.state f)) cs

  pub read_append : (c : Reading) (cs ds : List Call) → read_on b c (cs ++ ds) ≡ read_on b (read_on b c cs) ds
  read_append c [] ds = refl
  read_append c (put bs room ∷ cs) ds = read_append (record { state = (K.portion b c.state bs room).state; numbers = c.numbers ++ K.portion_wrote b c.state bs room }) cs ds
  read_append c (end ∷ cs) ds = read_append (record { state = (L.block_end b c.state).state; numbers = c.numbers }) cs ds
