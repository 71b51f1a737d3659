-- The line of a file by its closing answer: as the reader's state has it, and as the rules have it.
-- Assumes nothing.
use Rattle.std.specs.Prelude.{Ok, Err, Result}
use Prim.Native.Nat.{ℕ}
use mathlib.Core.Path.{◌≡◌, refl, sym, ap, ◌∙◌}
use mathlib.Core.Bool.{Bool, true, false}
use mathlib.Core.List.{List}
use borrow.Author.Tests.{eqb-true}
use lib.Dec.{eqb}
use Rattle.basis.specs.Choice.{pick}
use Rattle.basis.proofs.Choices.{pick_both}
use Rattle.refusals.specs.declared.Refusal.{Refusal}
use Rattle.refusals.specs.declared.Refusal.TheVariants.{Long, Block, Sync, Timing, Phase, FourAt, Trace, Count}
use Rattle.refusals.specs.Table.{stop_refusal}
use Rattle.header.specs.Faults.{header_fault}
use Rattle.scan.specs.declared.State.{State}
use Rattle.scan.specs.Fit.{fitb}
use Rattle.rules.specs.Outcome.{Closing, refused, report}
use Rattle.body.specs.declared.Report.{Report}
use Rattle.body.specs.Ends as N
use Rattle.trace.specs.declared.State.{State as TraceState}
use Rattle.trace.specs.Fit as F
use Rattle.trace.specs.Answers.{stop_of}
use Rattle.trace_body.specs.Calls as T
use Rattle.agree.specs.Answers as G
use Rattle.listing.specs.Lines.{turned_away, place_of, line_of}
use Rattle.files.specs.File.{told_by}
use Rattle.files.specs.Outcomes.{reported}

-- a refusal whose place is its own, whatever the body's length
record Fixed (x y : ℕ) (r : Refusal) : Type 0 where
  is : place_of r x ≡ place_of r y

module _ (x y p : ℕ) where
  long : Fixed x y (Long p)
  unfolding pick
  long = record { is = refl }

  block : Fixed x y (Block p)
  unfolding pick
  block = record { is = refl }

  sync : Fixed x y (Sync p)
  unfolding pick
  sync = record { is = refl }

  timing : Fixed x y (Timing p)
  unfolding pick
  timing = record { is = refl }

  phase : Fixed x y (Phase p)
  unfolding pick
  phase = record { is = refl }

  four : (t s : ℕ) → Fixed x y (FourAt p t s)
  unfolding pick
  four t s = record { is = refl }

  trace : Fixed x y (Trace p)
  unfolding pick
  trace = record { is = refl }

  count : Fixed x y (Count p)
  unfolding pick
  count = record { is = refl }

  stop_place : (n : ℕ) → Fixed x y (stop_refusal n p)
  unfolding stop_refusal
  stop_place n =
      pick_both F _ long (pick_both F _ block (pick_both F _ sync (pick_both F _ timing (pick_both F _ trace (pick_both F _ count phase)))))
    where
      F : Refusal → Type 0
      F = Fixed x y

refusal_in : Refusal → Result Report Refusal → Refusal
refusal_in d (Ok t) = d
refusal_in d (Err r) = r

same_refusal : (r q : Refusal) → ◌≡◌ {A = Result Report Refusal} (Err r) (Err q) → r ≡ q
unfolding refusal_in
same_refusal r q e = ap (refusal_in r) e

same_line : (n : ℕ) (r : Refusal) (x y : ℕ) → place_of r x ≡ place_of r y → line_of n (turned_away r x) ≡ line_of n (turned_away r y)
same_line n r x y e = rw e

refused_line : (n file format place : ℕ) (a : Result Report Refusal) (r : Refusal) → a ≡ Err r → line_of n (told_by file format place a) ≡ line_of n (turned_away r place)
refused_line n file format place a r e = ap (λ (c : Result Report Refusal). line_of n (told_by file format place c)) e

-- a closing answer a, of a body that stands at a place, is the rules' c: the lines are the same, where a stop's place is its own and a body that has not stopped
-- stands at its length
line_by : (n file format place bytes : ℕ) (a : Result Report Refusal) (c : Closing) → a ≡ G.closed_of c → ((r : Refusal) → a ≡ Err r → place_of r place ≡ place_of r bytes)
    → line_of n (told_by file format place a) ≡ line_of n (reported file format bytes c)
line_by n file format place bytes a (report t) e p = rw e
line_by n file format place bytes a (refused r) e p = refused_line n file format place a r e ∙ same_line n r place bytes (p r e)

-- the place of a closing's refusal, where a stop is kept by the number `stop` and told as q
placed : (stop place bytes : ℕ) (a : Result Report Refusal) (q : Refusal) → (stop ≡ 0 → place ≡ bytes) → (eqb stop 0 ≡ false → a ≡ Err q) → Fixed place bytes q
    → (r : Refusal) → a ≡ Err r → place_of r place ≡ place_of r bytes
placed stop place bytes a q p u f r e = go (eqb stop 0) refl
  where
    go : (t : Bool) → eqb stop 0 ≡ t → place_of r place ≡ place_of r bytes
    go true z = ap (place_of r) (p (eqb-true stop 0 z))
    go false z = let k : r ≡ q = same_refusal r q (sym e ∙ u z) in rw k f.is

-- of scans
pub scans_line : (n file format : ℕ) (s : State) (bytes : ℕ) (c : Closing) → N.close s ≡ G.closed_of c → fitb s ≡ true → (s.stop ≡ 0 → s.place ≡ bytes)
    → line_of n (told_by file format s.place (N.close s)) ≡ line_of n (reported file format bytes c)
unfolding N.close N.finish pick
scans_line n file format s bytes c e f p =
    line_by n file format s.place bytes (N.close s) c e
    (placed s.stop s.place bytes (N.close s) (stop_refusal s.stop s.stopat) p (λ u. rw (f, u)) (stop_place s.place bytes s.stopat s.stop))

-- of traces
trace_stop : (b : List ℕ) (s : TraceState) (x y : ℕ) → Fixed x y (stop_of b s)
unfolding stop_of
trace_stop b s x y = pick_both (Fixed x y) _ (four x y s.stopat _ _) (stop_place x y s.stopat s.stop)

pub traces_line : (n file format : ℕ) (b : List ℕ) (s : TraceState) (bytes : ℕ) (c : Closing) → header_fault b ≡ Ok tt → T.close b s ≡ G.closed_of c → F.fitb b s ≡ true
    → (s.stop ≡ 0 → s.place ≡ bytes) → line_of n (told_by file format s.place (T.close b s)) ≡ line_of n (reported file format bytes c)
unfolding T.close T.finish pick
traces_line n file format b s bytes c h e f p =
    line_by n file format s.place bytes (T.close b s) c e
    (placed s.stop s.place bytes (T.close b s) (stop_of b s) p (λ u. rw (h, f, u)) (trace_stop b s s.place bytes))
