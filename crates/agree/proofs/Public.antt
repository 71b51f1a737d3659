-- The calls that are open to callers, refused ones too: the pieces that are taken, and each call's own answer.
-- Assumes nothing.
use Rattle.std.specs.Prelude.{Err, Ok, Result, ⊤}
use Prim.Native.Nat.{ℕ, ◌*◌, ◌/◌}
use mathlib.Core.Path.{◌≡◌, refl, sym, ap, ◌∙◌}
use mathlib.Core.Bool.{Bool, true, false}
use mathlib.Core.List.{List, [], ◌∷◌, ◌++◌, append-nil}
use native.Mathlib.Omega.{arith}
use lib.Dec.{eqb, ltb}
use lib.IntN.{ℤ}
use lib.ListN.{length}
use borrow.Author.Tests.{ltb-false}
use Rattle.basis.specs.Choice.{pick}
use Rattle.refusals.specs.declared.Refusal.TheVariants.{Room, Block}
use Rattle.refusals.specs.Table.{stop_refusal}
use Rattle.scan.specs.declared.State.{State}
use Rattle.scan.specs.Step as S
use Rattle.scan.specs.Fit.{fitb}
use Rattle.scan.proofs.Shapes.{fit_of, of_fit}
use Rattle.scan.proofs.Keep.{fit_after}
use Rattle.stream.proofs.Cuts.{portion_state, portion_wrote_lem, portion_fit}
use Rattle.body.proofs.BlockEnds.{end_fit}
use Rattle.stream.specs.declared.Gave.{Gave}
use Rattle.stream.specs.declared.Answer.TheVariants as A
use Rattle.stream.specs.Calls as K
use Rattle.body.specs.Ends as N
use Rattle.rules.proofs.Machine.{Run}
use Rattle.agree.specs.Cuts.{portion}
use Rattle.agree.specs.Calls.{Call, put, end, Reading, read_on, taken}
use Rattle.agree.specs.Answers.{answer_from, room_answer}
use Rattle.agree.proofs.Cuts.{pieces}
use Rattle.agree.proofs.Whole.{step_of, emit_of, end_of, due_in, ended_due, ended_wrong, stopped_end, stop_in, feed_after}
use Rattle.refusals.specs.declared.Refusal.{Refusal}

-- ---- what each call comes to
portion_fits : (s : State) (bs : List ℕ) (room : ℕ) → fitb s ≡ true → K.portion s bs room ≡ K.fit_portion s bs room
unfolding K.portion pick
portion_fits s bs room e = rw e

fit_on : (s : State) (bs : List ℕ) (room : ℕ) → eqb s.stop 0 ≡ true → ltb room (2 * length bs) ≡ false → K.fit_portion s bs room ≡ K.fed s bs
unfolding K.fit_portion pick
fit_on s bs room z e = rw (z, e)

fit_none : (s : State) (bs : List ℕ) (room : ℕ) → eqb s.stop 0 ≡ true → ltb room (2 * length bs) ≡ true → K.fit_portion s bs room ≡ K.unchanged s Room
unfolding K.fit_portion pick
fit_none s bs room z e = rw (z, e)

fit_off : (s : State) (bs : List ℕ) (room : ℕ) → eqb s.stop 0 ≡ false → K.fit_portion s bs room ≡ record { state = s; answer = K.answered s 0 }
unfolding K.fit_portion pick
fit_off s bs room z = rw z

end_taken : (s : State) → fitb s ≡ true → N.block_end s ≡ N.ended s
unfolding N.block_end pick
end_taken s e = rw e

-- of a fit state
module _ (s : State) (f : fitb s ≡ true) where
  refused_state : (bs : List ℕ) (room : ℕ) → ltb room (2 * length bs) ≡ true → (K.portion s bs room).state ≡ s
  unfolding K.unchanged
  refused_state bs room e = ap (λ (g : Gave State). g.state) (portion_fits s bs room f) ∙ go (eqb s.stop 0) refl
    where
      go : (t : Bool) → eqb s.stop 0 ≡ t → (K.fit_portion s bs room).state ≡ s
      go true z = ap (λ (g : Gave State). g.state) (fit_none s bs room z e)
      go false z = ap (λ (g : Gave State). g.state) (fit_off s bs room z)

  wrote_none : (bs : List ℕ) (room : ℕ) → ltb room (2 * length bs) ≡ true → K.portion_wrote s bs room ≡ []
  unfolding K.portion_wrote K.fit_wrote pick
  wrote_none bs room e = rw (f, e) (go (eqb s.stop 0))
    where
      go : (t : Bool) → ◌≡◌ {A = List ℤ} (pick t [] []) []
      go true = refl
      go false = refl

  end_state : (N.block_end s).state ≡ end_of s
  end_state = ap (λ (g : Gave State). g.state) (end_taken s f)

  -- ---- answers, from the stops before and after
  on_answer : (t : State) (n m : ℕ) → m ≡ n / 2 → K.answered t n ≡ answer_from (Ok tt) (stop_in t) m
  unfolding K.answered pick
  on_answer t n m e = rw e (go (eqb t.stop 0))
    where
      go : (b : Bool) → pick b (A.GoingOn (n / 2)) (A.Stopped (n / 2) (stop_refusal t.stop t.stopat)) ≡ answer_from (Ok tt) (pick b (Ok tt) (Err (stop_refusal t.stop t.stopat))) (n / 2)
      go true = refl
      go false = refl

  off_answer : eqb s.stop 0 ≡ false → (later : Result ⊤ Refusal) (m : ℕ) → K.answered s 0 ≡ answer_from (stop_in s) later m
  unfolding K.answered pick
  off_answer z later m = rw z

  off_room : eqb s.stop 0 ≡ false → K.answered s 0 ≡ room_answer (stop_in s)
  unfolding K.answered pick
  off_room z = rw z

  going : eqb s.stop 0 ≡ true → stop_in s ≡ Ok tt
  unfolding pick
  going z = rw z

  pub portion_answer : (bs : List ℕ) (room m : ℕ) → ltb room (2 * length bs) ≡ false → 2 * m ≡ length (K.portion_wrote s bs room)
      → (K.portion s bs room).answer ≡ answer_from (stop_in s) (stop_in (K.portion s bs room).state) m
  unfolding K.fed
  portion_answer bs room m e n = go (eqb s.stop 0) refl
    where
      go : (t : Bool) → eqb s.stop 0 ≡ t → (K.portion s bs room).answer ≡ answer_from (stop_in s) (stop_in (K.portion s bs room).state) m
      go true z =
          let q : K.portion s bs room ≡ K.fed s bs = portion_fits s bs room f ∙ fit_on s bs room z e in
          let l : length (K.portion_wrote s bs room) ≡ length (S.wrote s bs) = ap length (portion_wrote_lem s bs room (ltb-false room (2 * length bs) e) f) in
          rw (q, going z) (on_answer (S.after s bs) (length (S.wrote s bs)) m (omega arith))
      go false z =
          let q : K.portion s bs room ≡ record { state = s; answer = K.answered s 0 } = portion_fits s bs room f ∙ fit_off s bs room z in
          rw q (off_answer z (stop_in s) m)

  pub room_answer_lem : (bs : List ℕ) (room : ℕ) → ltb room (2 * length bs) ≡ true → (K.portion s bs room).answer ≡ room_answer (stop_in s)
  unfolding K.unchanged
  room_answer_lem bs room e = go (eqb s.stop 0) refl
    where
      go : (t : Bool) → eqb s.stop 0 ≡ t → (K.portion s bs room).answer ≡ room_answer (stop_in s)
      go true z =
          let q : K.portion s bs room ≡ K.unchanged s Room = portion_fits s bs room f ∙ fit_none s bs room z e in
          rw (q, going z)
      go false z =
          let q : K.portion s bs room ≡ record { state = s; answer = K.answered s 0 } = portion_fits s bs room f ∙ fit_off s bs room z in
          rw q (off_room z)

  pub end_answer : (N.block_end s).answer ≡ answer_from (stop_in s) (stop_in (N.block_end s).state) 0
  unfolding N.one_end S.halted stop_refusal pick
  end_answer = go (eqb s.stop 0) (due_in s) refl refl
    where
      go : (t u : Bool) → eqb s.stop 0 ≡ t → due_in s ≡ u → (N.block_end s).answer ≡ answer_from (stop_in s) (stop_in (N.block_end s).state) 0
      go true true z u =
          let q : N.block_end s ≡ record { state = N.one_end s; answer = A.GoingOn 0 } = end_taken s f ∙ ended_due s z u in
          rw (q, z)
      go true false z u =
          let q : N.block_end s ≡ record { state = S.halted s 15; answer = A.Stopped 0 (Block s.place) } = end_taken s f ∙ ended_wrong s z u in
          rw (q, going z)
      go false u z w =
          let q : N.block_end s ≡ record { state = s; answer = K.answered s 0 } = end_taken s f ∙ stopped_end s z in
          rw q (off_answer z (stop_in s) 0)

-- ---- any calls
abbrev pub run_of : Reading → Run State ℤ
run_of c = record { st = c.state; out = c.numbers }

pub read_fits : (c : Reading) → fitb c.state ≡ true → (cs : List Call) → fitb (read_on c cs).state ≡ true
read_fits c f [] = f
read_fits c f (put bs room ∷ cs) =
    read_fits (record { state = (K.portion c.state bs room).state; numbers = c.numbers ++ K.portion_wrote c.state bs room }) (portion_fit c.state bs room f) cs
read_fits c f (end ∷ cs) = read_fits (record { state = (N.block_end c.state).state; numbers = c.numbers }) (end_fit c.state f) cs

pub read_pieces : (c : Reading) → fitb c.state ≡ true → (cs : List Call) → run_of (read_on c cs) ≡ pieces step_of emit_of end_of (run_of c) (taken cs)
unfolding pick
read_pieces c f [] = refl
read_pieces c f (put bs room ∷ cs) =
    go (ltb room (2 * length bs)) refl (read_pieces c f cs)
    (read_pieces (record { state = S.after c.state bs; numbers = c.numbers ++ S.wrote c.state bs }) (of_fit (S.after c.state bs) (fit_after c.state bs (fit_of c.state f))) cs)
  where
    go : (t : Bool) → ltb room (2 * length bs) ≡ t
        → run_of (read_on c cs) ≡ pieces step_of emit_of end_of (run_of c) (taken cs)
        → run_of (read_on (record { state = S.after c.state bs; numbers = c.numbers ++ S.wrote c.state bs }) cs)
        ≡ pieces step_of emit_of end_of (record { st = S.after c.state bs; out = c.numbers ++ S.wrote c.state bs }) (taken cs)
        → run_of (read_on (record { state = (K.portion c.state bs room).state; numbers = c.numbers ++ K.portion_wrote c.state bs room }) cs)
        ≡ pieces step_of emit_of end_of (run_of c) (pick (ltb room (2 * length bs)) (taken cs) (portion bs ∷ taken cs))
    go true e x y = rw (refused_state c.state f bs room e, wrote_none c.state f bs room e, append-nil c.numbers, e) x
    go false e x y =
        rw (portion_state c.state bs room (ltb-false room (2 * length bs) e) f, portion_wrote_lem c.state bs room (ltb-false room (2 * length bs) e) f, e)
        (y ∙ ap (λ (x : Run State ℤ). pieces step_of emit_of end_of x (taken cs)) (sym (feed_after (run_of c) bs)))
read_pieces c f (end ∷ cs) =
    ap (λ (s : State). run_of (read_on (record { state = s; numbers = c.numbers }) cs)) (end_state c.state f)
    ∙ read_pieces (record { state = end_of c.state; numbers = c.numbers }) (rw (end_state c.state f) at (end_fit c.state f)) cs

pub read_append : (c : Reading) (cs ds : List Call) → read_on c (cs ++ ds) ≡ read_on (read_on c cs) ds
read_append c [] ds = refl
read_append c (put bs room ∷ cs) ds = read_append (record { state = (K.portion c.state bs room).state; numbers = c.numbers ++ K.portion_wrote c.state bs room }) cs ds
read_append c (end ∷ cs) ds = read_append (record { state = (N.block_end c.state).state; numbers = c.numbers }) cs ds
