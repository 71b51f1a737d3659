-- The reader follows the rules: over any pieces, its state, what it wrote and its closing answer are the rules' for the body that the pieces spell.
-- Assumes nothing.
use Rattle.std.specs.Prelude.{Err, None, Ok, Result, Some, ⊤, Option}
use Prim.Native.Nat.{ℕ, zero, suc, ◌+◌, ◌-◌, ◌*◌, ◌/◌, ◌%◌, ◌≤◌, ◌<◌}
use mathlib.Core.Path.{◌≡◌, refl, sym, ap, ap₂, ◌∙◌, subst}
use mathlib.Core.Bool.{Bool, true, false, not}
use mathlib.Core.List.{List, [], ◌∷◌, ◌++◌, append-nil, append_assoc}
use native.Mathlib.Nat.{zero-div, zero-mod, zero-mul, mul-div_cancel}
use native.Mathlib.Omega.{arith}
use native.Mathlib.Numerals.{add-one}
use lib.Dec.{eqb, ltb}
use lib.IntN.{ℤ}
use lib.ListN.{length}
use borrow.Author.Tests.{eqb-true, eqb-false, ltb-false}
use Rattle.basis.specs.Choice.{pick}
use Rattle.basis.specs.Upto.{upto}
use Rattle.refusals.specs.declared.Refusal.{Refusal}
use Rattle.refusals.specs.declared.Refusal.TheVariants.{Block, Part, Open, Missing}
use Rattle.refusals.specs.Order.{when, or_else}
use Rattle.refusals.specs.Table.{said, stop_place, stop_refusal}
use Rattle.scan.specs.declared.State.{State}
use Rattle.scan.specs.declared.Stepped.{Stepped}
use Rattle.scan.specs.Step as S
use Rattle.scan.proofs.Fold.{step_stopped}
use Rattle.stream.specs.declared.Gave.{Gave}
use Rattle.stream.specs.declared.Answer.TheVariants as A
use Rattle.stream.specs.Calls as K
use Rattle.body.specs.Ends as N
use Rattle.body.specs.Open as O
use Rattle.body.specs.declared.Report as B
use Rattle.rules.specs.Tape.{Body, ends, start_of, size, byte_at}
use Rattle.rules.specs.Scans.{Shape}
use Rattle.rules.specs.Faults.{byte_fault, end_fault}
use Rattle.rules.specs.Outcome.{Report, report, answered, stop_of, numbers_of, report_of, closing, last_type, first_itb, first_window}
use Rattle.refusals.proofs.Clears.{clear_at}
use Rattle.rules.proofs.Tapes.{size_last}
use Rattle.rules.proofs.Laws.{Halts, long, block, sync, timing, phase, halts_at, byte_halts, end_halts, stop_halts}
use Rattle.rules.proofs.Machine.{Run, Still, Follows, feed, uncut, Ran, went, fell, ran_all}
use Rattle.agree.specs.Cuts.{Piece, spelled}
use Rattle.agree.specs.Answers.{closed_of}
use Rattle.agree.proofs.Cuts.{pieces, pieces_uncut}
use Rattle.agree.proofs.Plans.{Plan, group, scan, samples, shape_in, Sizes, wide, none_yet, before_is}
use Rattle.agree.proofs.Form.{head_of, itbs, twis, wins, form, exps, Begun, sole, many, Inv}
use Rattle.agree.proofs.Steps.{out_at, halt_at, Hop, on, off, step_hop}
use Rattle.agree.proofs.Ends.{due_same, shut_same, inv_next, inv_end}

-- one byte, what it writes, and one block end
abbrev pub step_of : State → ℕ → State
step_of s b = (S.step s b).state

abbrev pub emit_of : State → ℕ → List ℤ
emit_of s b = S.m_and_x (S.step s b)

abbrev pub end_of : State → State
end_of s = (N.ended s).state

pub stopped_end : (s : State) → eqb s.stop 0 ≡ false → N.ended s ≡ record { state = s; answer = K.answered s 0 }
unfolding N.ended pick
stopped_end s e = rw e

abbrev pub due_in : State → Bool
due_in s = N.due s.shape.block (s.place / s.shape.scan) (s.place % s.shape.scan) s.ends

pub ended_due : (s : State) → eqb s.stop 0 ≡ true → due_in s ≡ true → N.ended s ≡ record { state = N.one_end s; answer = A.GoingOn 0 }
unfolding N.ended pick
ended_due s z e = rw (z, e)

pub ended_wrong : (s : State) → eqb s.stop 0 ≡ true → due_in s ≡ false → N.ended s ≡ record { state = S.halted s 15; answer = A.Stopped 0 (Block s.place) }
unfolding N.ended pick
ended_wrong s z e = rw (z, e)

-- a stop's number is not 0, and with its place it is the refusal again
numbered : {p : ℕ} {r : Refusal} → Halts p r → eqb (said r).number 0 ≡ false
numbered long = refl
numbered block = refl
numbered sync = refl
numbered timing = refl
numbered phase = refl

again : {p : ℕ} {r : Refusal} → Halts p r → stop_refusal (said r).number p ≡ r
unfolding stop_refusal pick
again long = refl
again block = refl
again sync = refl
again timing = refl
again phase = refl

pub same_at : {r q : Refusal} → ◌≡◌ {A = Result ⊤ Refusal} (Err r) (Err q) → r ≡ q
same_at e = cc

-- the stop that a state keeps
abbrev pub stop_in : State → Result ⊤ Refusal
stop_in s = pick (eqb s.stop 0) (Ok tt) (Err (stop_refusal s.stop s.stopat))

-- ---- the closing answer
itb_told : (sh : Shape) (byte : ℕ → ℕ) (n : ℕ) → 0 < n → Some (itbs (first_itb sh byte n)) ≡ first_itb sh byte n
itb_told sh byte zero l = absurd (omega arith)
itb_told sh byte (suc n) l = refl

window_told : (w : Option ℕ) → ◌≡◌ {A = Option ℕ} (pick (eqb (twis w) 0) None (Some (wins w / 256))) w
unfolding pick
window_told None = refl
window_told (Some t) = let e : t * 256 / 256 ≡ t = omega arith in rw e

-- a scan type was seen, so there was a scan
scanned : (sh : Shape) (byte : ℕ → ℕ) (n : ℕ) → 0 < last_type sh byte n → 0 < n
scanned sh byte zero l = l
scanned sh byte (suc n) l = omega arith

-- ---- the reader's bytes and block ends, by the closed form
module _ (k : Plan) (sized : Sizes k) (typed : 1 ≤ k.types) (d : Body) (small : (p : ℕ) → byte_at d p < 256) where
  abbrev halted : Refusal → ℕ → ℕ → State
  halted = halt_at (byte_at d) k sized.wide sized.some small

  abbrev out : ℕ → List ℤ
  out = out_at (byte_at d) k sized.wide sized.some small

  abbrev Stepping : ℕ → ℕ → ℕ → Type 0
  Stepping i s p = Hop (byte_at d) k sized.wide sized.some small i s p (S.step (form (byte_at d) k i p) (byte_at d p))

  hop : (i s p : ℕ) → Inv (byte_at d) k i s p → Stepping i s p
  hop i s p h = step_hop (byte_at d) k sized.wide sized.some small p sized.words i s h

  stays : (i p q : ℕ) (r : Refusal) → Halts q r → Still step_of emit_of end_of (halted r i p)
  unfolding S.still S.m_and_x S.halted pick
  stays i p q r h =
      let s : State = halted r i p in
      record {
        steps = λ b. ap (λ (t : Stepped State). t.state) (step_stopped s b (numbered h));
        emits = λ b. ap S.m_and_x (step_stopped s b (numbered h));
        closes = ap (λ (t : Gave State). t.state) (stopped_end s (numbered h));
      }

  abbrev due_now : ℕ → ℕ → Bool
  due_now i p = N.due k.block (p / scan k) (p % scan k) i

  -- a block end is wrong where none is due
  end_test : (i s p : ℕ) → Begun (byte_at d) k i s p → end_fault (shape_in k) (byte_at d) i s p ≡ when (not (due_now i p)) (Block p)
  unfolding N.due end_fault
  end_test i s p h = ap (λ (t : Bool). when t (Block p)) (due_same (byte_at d) k i s p h)

  end_on_lem : (i s p : ℕ) → Begun (byte_at d) k i s p → end_fault (shape_in k) (byte_at d) i s p ≡ Ok tt → end_of (form (byte_at d) k i p) ≡ form (byte_at d) k (suc i) p
  unfolding N.one_end pick
  end_on_lem i s p h e = go (due_now i p) refl (sym (end_test i s p h) ∙ e)
    where
      more : N.one_end (form (byte_at d) k i p) ≡ form (byte_at d) k (suc i) p
      more = rw (add-one i)

      go : (t : Bool) → due_now i p ≡ t → when (not t) (Block p) ≡ Ok tt → end_of (form (byte_at d) k i p) ≡ form (byte_at d) k (suc i) p
      go true t f = ap (λ (g : Gave State). g.state) (ended_due (form (byte_at d) k i p) refl t) ∙ more
      go false t f = absurd (clear_at (sym f))

  end_off : (i s p : ℕ) (r : Refusal) → Begun (byte_at d) k i s p → end_fault (shape_in k) (byte_at d) i s p ≡ Err r → end_of (form (byte_at d) k i p) ≡ halted r i p
  unfolding pick
  end_off i s p r h e = go (due_now i p) refl (sym (end_test i s p h) ∙ e)
    where
      go : (t : Bool) → due_now i p ≡ t → when (not t) (Block p) ≡ Err r → end_of (form (byte_at d) k i p) ≡ halted r i p
      go true t f = absurd (clear_at f)
      go false t f =
          ap (λ (g : Gave State). g.state) (ended_wrong (form (byte_at d) k i p) refl t) ∙ ap (λ (q : Refusal). halted q i p) (same_at f)

  follows : Follows step_of emit_of end_of (byte_fault (shape_in k) (byte_at d)) (end_fault (shape_in k) (byte_at d)) d (form (byte_at d) k) halted out (Inv (byte_at d) k)
  follows =
      record {
        byte_on = λ i s p a h e. on_state i s p e (hop i s p h);
        byte_out = λ i s p a h e. on_out i s p e (hop i s p h);
        byte_inv = λ i s p a h e. inv_next (byte_at d) k i s p h e;
        byte_off = λ i s p r a h e. off_state i s p r e (hop i s p h);
        byte_none = λ i s p r a h e. off_out i s p r e (hop i s p h);
        byte_place = λ i s p r e. halts_at (byte_halts (shape_in k) (byte_at d) i s p r e);
        byte_still = λ i s p r e. stays i p p r (byte_halts (shape_in k) (byte_at d) i s p r e);
        end_on_lem = λ i s p a h e. end_on_lem i s p h.begun e;
        end_inv = λ i s p a h e. inv_end (byte_at d) k i s p h e;
        end_off = λ i s p r a h e. end_off i s p r h.begun e;
        end_place = λ i s p r e. halts_at (end_halts (shape_in k) (byte_at d) i s p r e);
        end_still = λ i s p r e. stays i p p r (end_halts (shape_in k) (byte_at d) i s p r e);
      }
    where
      on_state : (i s p : ℕ) → byte_fault (shape_in k) (byte_at d) i s p ≡ Ok tt → Stepping i s p → step_of (form (byte_at d) k i p) (byte_at d p) ≡ form (byte_at d) k i (suc p)
      on_state i s p e (on f c b) = c
      on_state i s p e (off r f c b) = absurd (clear_at (sym e ∙ f))

      on_out : (i s p : ℕ) → byte_fault (shape_in k) (byte_at d) i s p ≡ Ok tt → Stepping i s p → out p ++ emit_of (form (byte_at d) k i p) (byte_at d p) ≡ out (suc p)
      on_out i s p e (on f c b) = b
      on_out i s p e (off r f c b) = absurd (clear_at (sym e ∙ f))

      off_state : (i s p : ℕ) (r : Refusal) → byte_fault (shape_in k) (byte_at d) i s p ≡ Err r → Stepping i s p → step_of (form (byte_at d) k i p) (byte_at d p) ≡ halted r i p
      off_state i s p r e (on f c b) = absurd (clear_at (sym f ∙ e))
      off_state i s p r e (off q f c b) = rw (same_at (sym e ∙ f)) c

      off_out : (i s p : ℕ) (r : Refusal) → byte_fault (shape_in k) (byte_at d) i s p ≡ Err r → Stepping i s p → emit_of (form (byte_at d) k i p) (byte_at d p) ≡ []
      off_out i s p r e (on f c b) = absurd (clear_at (sym f ∙ e))
      off_out i s p r e (off q f c b) = b

  -- ---- the first state, and the last
  opens : O.fresh (head_of k) ≡ form (byte_at d) k 0 0
  unfolding O.fresh exps upto pick
  opens = rw (zero-div (scan k), zero-mod (scan k), none_yet k sized.wide sized.some (0 * samples k), zero-mul (samples k))

  no_out : ◌≡◌ {A = List ℤ} [] (out 0)
  unfolding upto
  no_out = rw (zero-div (scan k), zero-mod (scan k), none_yet k sized.wide sized.some (0 * samples k), zero-mul (samples k))

  inv0 : Inv (byte_at d) k 0 0 0
  inv0 = record { begun = go (eqb k.block 0) refl; phase = λ l. absurd (omega arith) }
    where
      go : (t : Bool) → eqb k.block 0 ≡ t → Begun (byte_at d) k 0 0 0
      go true e = sole (eqb-true k.block 0 e)
      go false e = subst (λ (x : ℕ). Begun (byte_at d) k 0 x 0) (zero-mul (k.block * scan k)) (many {i = 0} {p = 0} (eqb-false k.block 0 e) (omega arith))

  per_same : N.per_scan (head_of k) ≡ samples k
  unfolding N.per_scan
  per_same =
      let m : scan k - 8 ≡ k.groups * group k = omega arith in
      rw (sized.sum, m, mul-div_cancel k.groups (wide k sized.wide sized.some))

  -- the report of a whole body, by the state that has read it
  tally_same : (j : ℕ) → size d % scan k ≡ 0 → k.types ≤ last_type (shape_in k) (byte_at d) (size d / scan k)
      → ◌≡◌ {A = Result B.Report Refusal} (Ok (N.tally (form (byte_at d) k j (size d)))) (closed_of (report (report_of (shape_in k) d)))
  unfolding N.tally N.window_of pick
  tally_same j z l =
      rw (
        z,
        none_yet k sized.wide sized.some (size d / scan k * samples k),
        per_same,
        itb_told (shape_in k) (byte_at d) (size d / scan k) (scanned (shape_in k) (byte_at d) (size d / scan k) (omega (arith, typed, l))),
        window_told (first_window (shape_in k) (byte_at d) (size d / scan k)),
      )

  -- 20, 21 or the report, once no part of a scan is left
  last_three : (a b : Bool) (t : Report) (c : Result B.Report Refusal) → (b ≡ false → c ≡ closed_of (report t))
      → pick a (pick b (Err Missing) c) (Err Open) ≡ closed_of (answered (or_else (when (not a) Open) (when b Missing)) t)
  unfolding pick
  last_three true true t c f = refl
  last_three true false t c f = f refl
  last_three false b t c f = refl

  finish_same : (j t : ℕ) → Begun (byte_at d) k j t (size d) → t + length d.tail ≡ size d → stop_of (shape_in k) d ≡ Ok tt
      → N.finish (form (byte_at d) k j (size d)) ≡ closed_of (closing (shape_in k) d)
  unfolding N.finish N.shut closing pick
  finish_same j t h n g = rw g (go (eqb (size d % scan k) 0) refl)
    where
      few : Bool
      few = ltb (last_type (shape_in k) (byte_at d) (size d / scan k)) k.types

      go : (b : Bool) → eqb (size d % scan k) 0 ≡ b → N.finish (form (byte_at d) k j (size d)) ≡ closed_of (answered (or_else (when (not (eqb (size d % scan k) 0)) Part)
          (or_else (when (not (eqb (length d.tail) 0)) Open) (when (ltb (last_type (shape_in k) (byte_at d) (size d / scan k)) k.types) Missing))) (report_of (shape_in k) d))
      go false e = rw e
      go true e =
          let z : size d % scan k ≡ 0 = eqb-true (size d % scan k) 0 e in
          let whole : Result B.Report Refusal = Ok (N.tally (form (byte_at d) k j (size d))) in
          rw e
          (ap₂ (λ (a b : Bool). pick a (pick b (Err Missing) whole) (Err Open)) (shut_same (byte_at d) k j t (length d.tail) (size d) n z h) (ap (λ (m : ℕ). ltb m k.types) (at_end z))
          ∙ last_three (eqb (length d.tail) 0) few (report_of (shape_in k) d) whole
          (λ f. tally_same j z (ltb-false (last_type (shape_in k) (byte_at d) (size d / scan k)) k.types f)))
        where
          at_end : size d % scan k ≡ 0 → (form (byte_at d) k j (size d)).track.seen ≡ last_type (shape_in k) (byte_at d) (size d / scan k)
          at_end z = rw z

  -- ---- the whole
  pub record AgreesAt (c : Run State ℤ) : Type 0 where
    pub samples : c.out ≡ numbers_of (shape_in k) d
    pub stops : stop_in c.st ≡ stop_of (shape_in k) d
    pub closes : N.finish c.st ≡ closed_of (closing (shape_in k) d)

  halted_finish : (s : State) (r : Refusal) → Halts s.place r → N.finish (S.halted s (said r).number) ≡ Err r
  unfolding N.finish S.halted pick
  halted_finish s r h = rw (numbered h, again h)

  halted_stop : (s : State) (r : Refusal) → Halts s.place r → stop_in (S.halted s (said r).number) ≡ Err r
  unfolding S.halted pick
  halted_stop s r h = rw (numbered h, again h)

  agree_uncut : AgreesAt (uncut step_of emit_of end_of (record { st = O.fresh (head_of k); out = [] }) d.blocks d.tail)
  unfolding pick
  agree_uncut = rw (opens, no_out) (go (ran_all step_of emit_of end_of (byte_fault (shape_in k) (byte_at d)) (end_fault (shape_in k) (byte_at d)) d (form (byte_at d) k) halted out (Inv (byte_at d) k) follows inv0))
    where
      go : Ran step_of emit_of end_of (byte_fault (shape_in k) (byte_at d)) (end_fault (shape_in k) (byte_at d)) d (form (byte_at d) k) halted out (Inv (byte_at d) k) follows
          (stop_of (shape_in k) d) (uncut step_of emit_of end_of (record { st = form (byte_at d) k 0 0; out = out 0 }) d.blocks d.tail)
          → AgreesAt (uncut step_of emit_of end_of (record { st = form (byte_at d) k 0 0; out = out 0 }) d.blocks d.tail)
      go (went f c h) =
          rw c
          (record {
            samples = rw (f, before_is k sized.wide sized.some (byte_at d) (size d));
            stops = sym f;
            closes = finish_same (ends d) (start_of d (ends d)) h.begun (size_last d) f;
          })
      go (fell r i g f c) = rw c (record { samples = rw (f, before_is k sized.wide sized.some (byte_at d) (stop_place r)); stops = halted_stop (form (byte_at d) k i (stop_place r)) r (stop_halts (shape_in k) d r f) ∙ sym f; closes = halted_finish (form (byte_at d) k i (stop_place r)) r (stop_halts (shape_in k) d r f) ∙ (unfold closing in (rw f)) })

-- the same for a body that is handed over in pieces
pub agree_pieces : (k : Plan) (sized : Sizes k) (typed : 1 ≤ k.types) (es : List Piece) (small : (p : ℕ) → byte_at (spelled es) p < 256)
    → AgreesAt k sized typed (spelled es) small (pieces step_of emit_of end_of (record { st = O.fresh (head_of k); out = [] }) es)
agree_pieces k sized typed es small =
    rw (pieces_uncut step_of emit_of end_of (record { st = O.fresh (head_of k); out = [] }) es) (agree_uncut k sized typed (spelled es) small)

-- a portion as the reader's own contract has it: the state after its bytes, and what they wrote
pub feed_after : (c : Run State ℤ) (bs : List ℕ) → feed step_of emit_of end_of c bs ≡ record { st = S.after c.st bs; out = c.out ++ S.wrote c.st bs }
unfolding S.after S.wrote
feed_after c [] = λ i. record { st = c.st; out = sym (append-nil c.out) i }
feed_after c (b ∷ bs) =
    feed_after (record { st = step_of c.st b; out = c.out ++ emit_of c.st b }) bs
    ∙ (λ i. record { st = S.after (step_of c.st b) bs; out = append_assoc c.out (emit_of c.st b) (S.wrote (step_of c.st b) bs) i })
