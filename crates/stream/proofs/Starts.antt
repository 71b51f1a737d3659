-- A scan's start that stops nothing comes to what its eight bytes come to one by one.
-- Assumes nothing.
use Rattle.std.proofs.Common.{◌≡◌, ℕ, suc, ◌+◌, ◌%◌, ◌<◌, Bool, true, false, eqb, List, [], ◌∷◌, take, drop, ℤ, refl, ap, ◌∙◌, add-zero, add_assoc, add-suc, arith, take-append-drop, drop-cons, le-ltb, lt-ltb, eq-eqb, ne_eqb, eqb-true}
use Rattle.basis.specs.Choice.{pick}
use Rattle.basis.specs.Digits.{written, byte_in}
use Rattle.basis.proofs.Choices.{and_true}
use Rattle.scan.specs.declared.Track.{Track}
use Rattle.scan.specs.declared.State.{State}
use Rattle.scan.specs.Step.{step, still, moved, moved_by, quiet, sync, start, full, phase, typed, phased, time, timed, instep, shift, after, wrote, m_and_x}
use Rattle.runs.specs.Runs.{over}
use Rattle.stream.specs.declared.Chunk.{Chunk}
use Rattle.stream.specs.Bulk.{chunk, chunk_out}
use Rattle.stream.specs.Starts.{seventh, synced, soundb, Sound}
use Rattle.stream.proofs.Held.{four_shifts}
use Rattle.stream.proofs.Words.{moved_none, moved_next}
use Rattle.stream.proofs.Words.{mod_on}

-- ---- bytes that write nothing, and the state after them

pub record Goes (s : State) (bs : List ℕ) (t : State) : Type 0 where
  pub state : after s bs ≡ t
  pub list : wrote s bs ≡ []

goes_none : (s : State) → Goes s [] s
unfolding after wrote
goes_none s = record { state = refl; list = refl }

goes_on : (s t u : State) (b : ℕ) (bs : List ℕ) → step s b ≡ still t → Goes t bs u → Goes s (b ∷ bs) u
unfolding after wrote m_and_x still
goes_on s t u b bs e g = record { state = rw e g.state; list = rw e g.list }

-- ---- one byte of a start, by its place in the scan

module _ (t : State) (b : ℕ) (hs : t.stop ≡ 0) (hp : t.place < 4294967295) where
  at_first : t.place % t.shape.scan ≡ 0 → full t.shape t.place t.ends ≡ false → b ≡ 255 → step t b ≡ quiet t b
  unfolding step start sync pick
  at_first hq f e = rw (eq-eqb t.stop 0 hs, ne_eqb t.place 4294967295 (λ x. omega arith), hq, f, eq-eqb b 255 e)

  at_sync : (q : ℕ) → t.place % t.shape.scan ≡ q → 0 < q → q < 3 → b ≡ 255 → step t b ≡ quiet t b
  unfolding step sync pick
  at_sync q hq lo hi e =
      rw (eq-eqb t.stop 0 hs, ne_eqb t.place 4294967295 (λ x. omega arith), hq, ne_eqb q 0 (λ x. omega arith), lt-ltb q 3 hi, eq-eqb b 255 e)

  at_phase : t.place % t.shape.scan ≡ 3 → b % 4 ≡ 1 → phased t.track t.shape.types b ≡ true → step t b ≡ still (moved t (typed t.track b) t.exponents t.off b)
  unfolding step phase pick
  at_phase hq m p = rw (eq-eqb t.stop 0 hs, ne_eqb t.place 4294967295 (λ x. omega arith), hq, eq-eqb (b % 4) 1 m, p)

  at_quiet : (q : ℕ) → t.place % t.shape.scan ≡ q → 3 < q → q < 7 → step t b ≡ quiet t b
  unfolding step pick
  at_quiet q hq lo hi =
      rw (eq-eqb t.stop 0 hs, ne_eqb t.place 4294967295 (λ x. omega arith), hq, ne_eqb q 0 (λ x. omega arith), le-ltb q 3 (omega arith), ne_eqb q 3 (λ x. omega arith), lt-ltb q 7 hi)

  at_time : t.place % t.shape.scan ≡ 7 → instep t b ≡ true → step t b ≡ still (moved t (timed t.track t.held b) t.exponents t.off b)
  unfolding step time pick
  at_time hq i = rw (eq-eqb t.stop 0 hs, ne_eqb t.place 4294967295 (λ x. omega arith), hq, i)

-- ---- the states among them

-- j bytes into a scan, with what the starts told by then and the last four bytes
abbrev into : State → ℕ → Track → ℕ → State
into s j k held = moved_by s j k s.exponents s.off held

into_next : (s : State) (j : ℕ) (k k' : Track) (held b : ℕ) → moved (into s j k held) k' s.exponents s.off b ≡ into s (suc j) k' (shift held b)
into_next s j k k' held b = moved_next s j k k' s.exponents s.off held s.exponents s.off b

-- ---- what a sound start has

picked_not : (t x : Bool) → pick t false x ≡ true → (t ≡ false) × (x ≡ true)
unfolding pick
picked_not true x e = let z : ◌≡◌ {A = Bool} false true = e in (cc, cc)
picked_not false x e = (refl, e)

picked : (t x : Bool) → pick t x false ≡ true → (t ≡ true) × (x ≡ true)
unfolding pick
picked true x e = (refl, e)
picked false x e = let z : ◌≡◌ {A = Bool} false true = e in (cc, cc)

record Right (s : State) (bs : List ℕ) (i : ℕ) : Type 0 where
  free : full s.shape s.place s.ends ≡ false
  sync1 : byte_in bs i ≡ 255
  sync2 : byte_in bs (i + 1) ≡ 255
  sync3 : byte_in bs (i + 2) ≡ 255
  bits : byte_in bs (i + 3) % 4 ≡ 1
  phase : phased s.track s.shape.types (byte_in bs (i + 3)) ≡ true
  timing : instep (seventh s bs i) (byte_in bs (i + 7)) ≡ true

right_parts : (s : State) (bs : List ℕ) (i : ℕ) → soundb s bs i ≡ true → Right s bs i
unfolding soundb synced
right_parts s bs i e =
    let a = picked_not _ _ e in
    let b = picked _ _ a.1 in
    let c = picked _ _ b.1 in
    let d = and_true _ (eqb (byte_in bs (i + 3) % 4) 1) b.0 in
    let f = and_true _ (eqb (byte_in bs (i + 2)) 255) d.0 in
    let g = and_true (eqb (byte_in bs i) 255) (eqb (byte_in bs (i + 1)) 255) f.0 in
    record {
      free = a.0;
      sync1 = eqb-true _ _ g.0;
      sync2 = eqb-true _ _ g.1;
      sync3 = eqb-true _ _ f.1;
      bits = eqb-true _ _ d.1;
      phase = c.0;
      timing = c.1;
    }

-- ---- the eight bytes

module _ (s : State) (bs : List ℕ) (i : ℕ) (a : Sound s bs i) (l : (j : ℕ) → byte_in bs j < 256) where
  r : Right s bs i
  r = right_parts s bs i a.right

  spot : (j : ℕ) → j < 8 → (s.place + j) % s.shape.scan ≡ j
  spot j h =
      let f = a.first in
      let e = mod_on s.place j s.shape.scan (omega (arith, f, a.fit.scan)) in
      omega (arith, e, f)

  next : (j n : ℕ) (t u v : State) → j < 8 → step t (byte_in bs (i + j)) ≡ still u → Goes u (take n (drop (i + suc j) bs)) v → Goes t (take (suc n) (drop (i + j) bs)) v
  next j n t u v h e g = rw (drop-cons bs (i + j) 0 (omega (arith, a.whole)), ← add-suc i j) (goes_on t u v (byte_in bs (i + j)) (take n (drop (i + suc j) bs)) e g)

  abbrev k : Track
  k = typed s.track (byte_in bs (i + 3))

  -- the state after them
  abbrev pub done : State
  done = moved (seventh s bs i) (timed (seventh s bs i).track (seventh s bs i).held (byte_in bs (i + 7))) (seventh s bs i).exponents (seventh s bs i).off (byte_in bs (i + 7))

  from_time : Goes (seventh s bs i) (take 1 (drop (i + 7) bs)) done
  unfolding seventh moved_by
  from_time = next 7 0 (seventh s bs i) done done (omega arith) (at_time (seventh s bs i) (byte_in bs (i + 7)) a.stop (omega (arith, a.long)) (spot 7 (omega arith)) r.timing) (goes_none done)

  -- a quiet byte goes on to the next place
  quietly : (j n held : ℕ) (t : Track) (v : State) → j < 8 → step (into s j t held) (byte_in bs (i + j)) ≡ quiet (into s j t held) (byte_in bs (i + j)) → Goes (into s (suc j) t (shift held (byte_in bs (i + j)))) (take n (drop (i + suc j) bs)) v → Goes (into s j t held) (take (suc n) (drop (i + j) bs)) v
  unfolding quiet moved_by
  quietly j n held t v h e g = next j n (into s j t held) (into s (suc j) t (shift held (byte_in bs (i + j)))) v h (e ∙ ap still (into_next s j t t held (byte_in bs (i + j)))) g

  among : (j held : ℕ) (t : Track) → 3 < j → j < 7 → step (into s j t held) (byte_in bs (i + j)) ≡ quiet (into s j t held) (byte_in bs (i + j))
  unfolding moved_by
  among j held t lo hi = at_quiet (into s j t held) (byte_in bs (i + j)) a.stop (omega (arith, a.long)) j (spot j (omega arith)) lo hi

  in_sync : (j held : ℕ) → 0 < j → j < 3 → byte_in bs (i + j) ≡ 255 → step (into s j s.track held) (byte_in bs (i + j)) ≡ quiet (into s j s.track held) (byte_in bs (i + j))
  unfolding moved_by
  in_sync j held lo hi e = at_sync (into s j s.track held) (byte_in bs (i + j)) a.stop (omega (arith, a.long)) j (spot j (omega arith)) lo hi e

  at_none : (held : ℕ) → step (into s 0 s.track held) (byte_in bs (i + 0)) ≡ quiet (into s 0 s.track held) (byte_in bs (i + 0))
  unfolding moved_by
  at_none held = at_first (into s 0 s.track held) (byte_in bs (i + 0)) a.stop (omega (arith, a.long)) (spot 0 (omega arith)) (rw (add-zero s.place) r.free) (rw (add-zero i) r.sync1)

  held_last : (x : ℕ) → shift (shift (shift (shift x (byte_in bs (i + 3))) (byte_in bs (i + 4))) (byte_in bs (i + 5))) (byte_in bs (i + 6)) ≡ written 256 (byte_in bs) (i + 3) 4
  held_last x = rw (add_assoc i 3 1, add_assoc i 3 2, add_assoc i 3 3) at (four_shifts bs l x (i + 3))

  from_quiet : (x : ℕ) → Goes (into s 4 k (shift x (byte_in bs (i + 3)))) (take 4 (drop (i + 4) bs)) done
  unfolding seventh
  from_quiet x =
      quietly 4 3 _ k done (omega arith) (among 4 _ k (omega arith) (omega arith))
      (quietly 5 2 _ k done (omega arith) (among 5 _ k (omega arith) (omega arith))
      (quietly 6 1 _ k done (omega arith) (among 6 _ k (omega arith) (omega arith))
      (rw (held_last x) from_time)))

  from_phase : (x : ℕ) → Goes (into s 3 s.track x) (take 5 (drop (i + 3) bs)) done
  unfolding moved_by
  from_phase x =
      next 3 4 (into s 3 s.track x) (into s 4 k (shift x (byte_in bs (i + 3)))) done (omega arith)
      (at_phase (into s 3 s.track x) (byte_in bs (i + 3)) a.stop (omega (arith, a.long)) (spot 3 (omega arith)) r.bits r.phase ∙ ap still (into_next s 3 s.track k x (byte_in bs (i + 3))))
      (from_quiet x)

  from_first : Goes (into s 0 s.track s.held) (take 8 (drop (i + 0) bs)) done
  from_first =
      quietly 0 7 s.held s.track done (omega arith) (at_none s.held)
      (quietly 1 6 _ s.track done (omega arith) (in_sync 1 _ (omega arith) (omega arith) r.sync2)
      (quietly 2 5 _ s.track done (omega arith) (in_sync 2 _ (omega arith) (omega arith) r.sync3)
      (from_phase _)))

  pub eight : Goes s (take 8 (drop i bs)) done
  eight = rw (moved_none s, add-zero i) at from_first

  -- as some bytes taken at once, of which nothing is written
  pub start_chunk : (n : ℕ) (t : State) → n ≡ 8 → t ≡ after s (take 8 (drop i bs)) → ◌≡◌ {A = Chunk} (record { state = t; count = 0 }) (chunk s (take n (drop i bs)))
  unfolding chunk
  start_chunk n t e et = rw (e, et, eight.list)

  pub start_out : (n m : ℕ) (out : List ℤ) → n ≡ 8 → out ≡ chunk_out s (take n (drop i bs)) m out
  unfolding chunk_out over
  start_out n m out e = rw (e, eight.list, take-append-drop)
