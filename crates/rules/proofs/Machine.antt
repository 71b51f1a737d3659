-- Any machine that takes bytes and block ends one at a time, whose state after p bytes and i block ends has a closed form as long as the rules
-- find no fault, and which halts where they find one: whatever the rules, its run over a body is what they say of it.
-- Assumes nothing.
use Rattle.std.specs.Prelude.{Err, Ok, Result, ⊤}
use Prim.Native.Nat.{ℕ, suc, ◌+◌, ◌≤◌, ◌<◌}
use mathlib.Core.Path.{◌≡◌, refl, sym, ap, ap₂, ◌∙◌, subst}
use mathlib.Core.List.{List, [], ◌∷◌, ◌++◌, append-nil}
use native.Mathlib.Nat.{add-zero, zero-add}
use native.Mathlib.Omega.{arith}
use native.Mathlib.Numerals.{add-one}
use lib.ListN.{length, get_or, drop}
use lib.Seq.{get_or-drop, drop-drop}
use Rattle.basis.specs.Upto.{upto}
use Rattle.refusals.specs.declared.Refusal.{Refusal}
use Rattle.refusals.specs.Order.{or_else, first_upto}
use Rattle.refusals.specs.Table.{stop_place}
use Rattle.rules.specs.Tape.{Body, ends, block_of, length_of, start_of, size, byte_at, bytes_fault, block_fault, first_fault}
use Rattle.basis.proofs.Uptos.{upto_same}
use Rattle.refusals.proofs.Clears.{first_first}
use Rattle.rules.proofs.Tapes.{byte_in_lem, last_block, size_last}

-- the byte at place p stands in block i, which begins at place s
pub record Inside (d : Body) (i s p : ℕ) : Type 0 where
  pub few : i ≤ ends d
  pub begins : s ≡ start_of d i
  pub after : s ≤ p
  pub before : p < s + length_of d i

-- block i, which begins at place s, ends after p bytes
pub record AtEnd (d : Body) (i s p : ℕ) : Type 0 where
  pub few : i < ends d
  pub begins : s ≡ start_of d i
  pub whole : p ≡ s + length_of d i

-- block i has the fault r
pub data Broke (byte_fault end_fault : ℕ → ℕ → ℕ → Result ⊤ Refusal) (i : ℕ) (r : Refusal) : Type 0 where
  by_byte : (s p : ℕ) → byte_fault i s p ≡ Err r → Broke byte_fault end_fault i r
  by_end : (s p : ℕ) → end_fault i s p ≡ Err r → Broke byte_fault end_fault i r

-- a machine's state, and what it has put out so far
pub record Run (St S : Type 0) : Type 0 where
  pub st : St
  pub out : List S

module _ {St S : Type 0} (step : St → ℕ → St) (emit : St → ℕ → List S) (end_of : St → St) where
  abbrev pub one : Run St S → ℕ → Run St S
  one c b = record { st = step c.st b; out = c.out ++ emit c.st b }

  abbrev pub feed : Run St S → List ℕ → Run St S
  feed c [] = c
  feed c (b ∷ bs) = feed (one c b) bs

  abbrev pub close : Run St S → Run St S
  close c = record { st = end_of c.st; out = c.out }

  abbrev pub uncut : Run St S → List (List ℕ) → List ℕ → Run St S
  uncut c [] tail = feed c tail
  uncut c (b ∷ bs) tail = uncut (close (feed c b)) bs tail

  both : {x y : St} {l m : List S} → x ≡ y → l ≡ m → ◌≡◌ {A = Run St S} (record { st = x; out = l }) (record { st = y; out = m })
  both p q = λ i. record { st = p i; out = q i }

  -- a state that nothing changes
  pub record Still (st : St) : Type 0 where
    pub steps : (b : ℕ) → step st b ≡ st
    pub emits : (b : ℕ) → emit st b ≡ []
    pub closes : end_of st ≡ st

  stay_feed : (c : Run St S) → Still c.st → (bs : List ℕ) → feed c bs ≡ c
  stay_feed c h [] = refl
  stay_feed c h (b ∷ bs) =
      ap (λ (x : Run St S). feed x bs) (both (h.steps b) (ap (λ (l : List S). c.out ++ l) (h.emits b) ∙ append-nil c.out)) ∙ stay_feed c h bs

  stay_uncut : (c : Run St S) → Still c.st → (bs : List (List ℕ)) (tail : List ℕ) → uncut c bs tail ≡ c
  stay_uncut c h [] tail = stay_feed c h tail
  stay_uncut c h (b ∷ bs) tail = ap (λ (x : Run St S). uncut x bs tail) (ap close (stay_feed c h b) ∙ both h.closes refl) ∙ stay_uncut c h bs tail

  -- The closed form, its halt, what is put out before a place, and what is known there, of block i, which begins at place s.
  module _ (byte_fault end_fault : ℕ → ℕ → ℕ → Result ⊤ Refusal) (d : Body) (stateAt : ℕ → ℕ → St) (halt_at : Refusal → ℕ → ℕ → St) (out_at : ℕ → List S) (Inv : ℕ → ℕ → ℕ → Type 0) where
    abbrev pub form_at : ℕ → ℕ → Run St S
    form_at i p = record { st = stateAt i p; out = out_at p }

    abbrev pub stop_at : Refusal → ℕ → ℕ → Run St S
    stop_at r i p = record { st = halt_at r i p; out = out_at p }

    -- what is to be shown of the machine, one byte and one block end at a time
    pub record Follows : Type 0 where
      pub byte_on : (i s p : ℕ) → Inside d i s p → Inv i s p → byte_fault i s p ≡ Ok tt → step (stateAt i p) (byte_at d p) ≡ stateAt i (suc p)
      pub byte_out : (i s p : ℕ) → Inside d i s p → Inv i s p → byte_fault i s p ≡ Ok tt → out_at p ++ emit (stateAt i p) (byte_at d p) ≡ out_at (suc p)
      pub byte_inv : (i s p : ℕ) → Inside d i s p → Inv i s p → byte_fault i s p ≡ Ok tt → Inv i s (suc p)
      pub byte_off : (i s p : ℕ) (r : Refusal) → Inside d i s p → Inv i s p → byte_fault i s p ≡ Err r → step (stateAt i p) (byte_at d p) ≡ halt_at r i p
      pub byte_none : (i s p : ℕ) (r : Refusal) → Inside d i s p → Inv i s p → byte_fault i s p ≡ Err r → emit (stateAt i p) (byte_at d p) ≡ []
      pub byte_place : (i s p : ℕ) (r : Refusal) → byte_fault i s p ≡ Err r → stop_place r ≡ p
      pub byte_still : (i s p : ℕ) (r : Refusal) → byte_fault i s p ≡ Err r → Still (halt_at r i p)
      pub end_on_lem : (i s p : ℕ) → AtEnd d i s p → Inv i s p → end_fault i s p ≡ Ok tt → end_of (stateAt i p) ≡ stateAt (suc i) p
      pub end_inv : (i s p : ℕ) → AtEnd d i s p → Inv i s p → end_fault i s p ≡ Ok tt → Inv (suc i) p p
      pub end_off : (i s p : ℕ) (r : Refusal) → AtEnd d i s p → Inv i s p → end_fault i s p ≡ Err r → end_of (stateAt i p) ≡ halt_at r i p
      pub end_place : (i s p : ℕ) (r : Refusal) → end_fault i s p ≡ Err r → stop_place r ≡ p
      pub end_still : (i s p : ℕ) (r : Refusal) → end_fault i s p ≡ Err r → Still (halt_at r i p)

    module _ (m : Follows) where
      one_on : (i s p : ℕ) → Inside d i s p → Inv i s p → byte_fault i s p ≡ Ok tt → one (form_at i p) (byte_at d p) ≡ form_at i (suc p)
      one_on i s p a h e = both (m.byte_on i s p a h e) (m.byte_out i s p a h e)

      one_off : (i s p : ℕ) (r : Refusal) → Inside d i s p → Inv i s p → byte_fault i s p ≡ Err r → one (form_at i p) (byte_at d p) ≡ stop_at r i p
      one_off i s p r a h e = both (m.byte_off i s p r a h e) (ap (λ (l : List S). out_at p ++ l) (m.byte_none i s p r a h e) ∙ append-nil (out_at p))

      -- the faults of the bytes from place p on
      abbrev from : ℕ → ℕ → ℕ → ℕ → Result ⊤ Refusal
      from i s p k = byte_fault i s (p + k)

      from_first : (i s p n : ℕ) → first_upto (from i s p) (suc n) ≡ or_else (byte_fault i s p) (first_upto (from i s (suc p)) n)
      from_first i s p n =
          first_first (from i s p) n
          ∙ ap₂ or_else (ap (byte_fault i s) (add-zero p))
          (upto_same or_else (Ok tt) (λ (k : ℕ). from i s p (suc k)) (from i s (suc p)) (λ k. ap (byte_fault i s) (omega arith)) n)

      data Fed (i s p n : ℕ) (c : Run St S) : Type 0 where
        went : first_upto (from i s p) n ≡ Ok tt → c ≡ form_at i (p + n) → Inv i s (p + n) → Fed i s p n c
        fell : (r : Refusal) → Broke byte_fault end_fault i r → first_upto (from i s p) n ≡ Err r → c ≡ stop_at r i (stop_place r) → Still (halt_at r i (stop_place r)) → Fed i s p n c

      fed : (bs : List ℕ) (i s p : ℕ) → i ≤ ends d → s ≡ start_of d i → s ≤ p → p + length bs ≤ s + length_of d i → Inv i s p → ((k : ℕ) → k < length bs → byte_at d (p + k) ≡ get_or bs k 0) → Fed i s p (length bs) (feed (form_at i p) bs)
      unfolding upto
      fed [] i s p l q a n h same = went refl (rw (add-zero p)) (rw (add-zero p) h)
      fed (b ∷ bs) i s p l q a n h same =
          rw (sym (same 0 (omega arith)) ∙ ap (byte_at d) (add-zero p))
          (go (byte_fault i s p) refl
          (λ z. fed bs i s (suc p) l q (omega arith) (omega arith) (m.byte_inv i s p here h z) (λ k l. ap (byte_at d) (let q : suc p + k ≡ p + suc k = omega arith in q) ∙ same (suc k) (omega arith))))
        where
          here : Inside d i s p
          here = record { few = l; begins = q; after = a; before = omega arith }

          go : (f : Result ⊤ Refusal) → byte_fault i s p ≡ f → (byte_fault i s p ≡ Ok tt → Fed i s (suc p) (length bs) (feed (form_at i (suc p)) bs))
              → Fed i s p (suc (length bs)) (feed (one (form_at i p) (byte_at d p)) bs)
          go (Ok tt) z more = rw (one_on i s p here h z) (pass (more z))
            where
              pass : Fed i s (suc p) (length bs) (feed (form_at i (suc p)) bs) → Fed i s p (suc (length bs)) (feed (form_at i (suc p)) bs)
              pass (went f c g) =
                  let n : suc p + length bs ≡ p + suc (length bs) = omega arith in
                  went (from_first i s p (length bs) ∙ rw (z, f)) (rw n at c) (rw n at g)
              pass (fell r g f c v) = fell r g (from_first i s p (length bs) ∙ rw (z, f)) c v
          go (Err r) z more =
              rw (one_off i s p r here h z)
              (fell r (by_byte s p z) (from_first i s p (length bs) ∙ rw z)
              (stay_feed (stop_at r i p) (m.byte_still i s p r z) bs ∙ ap (stop_at r i) (sym (m.byte_place i s p r z)))
              (subst (λ (q : ℕ). Still (halt_at r i q)) (sym (m.byte_place i s p r z)) (m.byte_still i s p r z)))

      -- ---- block by block
      fed_block : (b : List ℕ) (i : ℕ) → i ≤ ends d → block_of d i ≡ b → Inv i (start_of d i) (start_of d i) → Fed i (start_of d i) (start_of d i) (length b) (feed (form_at i (start_of d i)) b)
      fed_block b i l e h =
          fed b i (start_of d i) (start_of d i) l refl (omega arith) (omega (arith, ap length e)) h
          (λ k u. byte_in_lem d i k l (subst (λ (x : List ℕ). k < length x) (sym e) u) ∙ ap (λ (x : List ℕ). get_or x k 0) e)

      -- what is left from block k on
      abbrev left : ℕ → ℕ → Result ⊤ Refusal
      left k n = or_else (first_upto (λ (j : ℕ). block_fault byte_fault end_fault d (k + j)) n) (bytes_fault byte_fault end_fault d (ends d))

      left_first : (k n : ℕ) → left k (suc n) ≡ or_else (block_fault byte_fault end_fault d k) (left (suc k) n)
      left_first k n =
          ap (λ (f : Result ⊤ Refusal). or_else f (bytes_fault byte_fault end_fault d (ends d)))
          (first_first (λ (j : ℕ). block_fault byte_fault end_fault d (k + j)) n
          ∙ ap₂ or_else (ap (block_fault byte_fault end_fault d) (add-zero k))
          (upto_same or_else (Ok tt) (λ (j : ℕ). block_fault byte_fault end_fault d (k + suc j)) (λ (j : ℕ). block_fault byte_fault end_fault d (suc k + j))
          (λ j. ap (block_fault byte_fault end_fault d) (omega arith)) n))
          ∙ assoc (block_fault byte_fault end_fault d k) (first_upto (λ (j : ℕ). block_fault byte_fault end_fault d (suc k + j)) n) (bytes_fault byte_fault end_fault d (ends d))
        where
          assoc : (a b c : Result ⊤ Refusal) → or_else (or_else a b) c ≡ or_else a (or_else b c)
          assoc (Ok tt) b c = refl
          assoc (Err r) b c = refl

      pub data Ran (f : Result ⊤ Refusal) (c : Run St S) : Type 0 where
        went : f ≡ Ok tt → c ≡ form_at (ends d) (size d) → Inv (ends d) (start_of d (ends d)) (size d) → Ran f c
        fell : (r : Refusal) (i : ℕ) → Broke byte_fault end_fault i r → f ≡ Err r → c ≡ stop_at r i (stop_place r) → Ran f c

      pub ran : (bs : List (List ℕ)) (k : ℕ) → drop k d.blocks ≡ bs → k + length bs ≡ ends d → Inv k (start_of d k) (start_of d k)
          → Ran (left k (length bs)) (uncut (form_at k (start_of d k)) bs d.tail)
      unfolding upto
      ran [] k e n h = rw last (go (fed_block d.tail (ends d) (omega arith) (last_block d) (rw last at h)))
        where
          last : k ≡ ends d
          last = omega (arith, n)

          go : Fed (ends d) (start_of d (ends d)) (start_of d (ends d)) (length d.tail) (feed (form_at (ends d) (start_of d (ends d))) d.tail)
              → Ran (left (ends d) 0) (feed (form_at (ends d) (start_of d (ends d))) d.tail)
          go (went f c g) = went (rw (last_block d) f) (rw (size_last d) at c) (rw (size_last d) at g)
          go (fell r g f c v) = fell r (ends d) g (rw (last_block d) f) c
      ran (b ∷ bs) k e n h =
          go (fed_block b k (omega (arith, n)) here h)
          (λ g. ran bs (suc k) (ap (λ (x : ℕ). drop x d.blocks) (sym (add-one k)) ∙ sym (drop-drop 1 k d.blocks) ∙ ap (drop 1) e) (omega (arith, n)) g)
        where
          here : block_of d k ≡ b
          here = ap (λ (x : ℕ). get_or d.blocks x d.tail) (sym (add-zero k)) ∙ sym (get_or-drop k d.blocks 0 d.tail) ∙ ap (λ (l : List (List ℕ)). get_or l 0 d.tail) e

          q : ℕ
          q = start_of d k + length b

          shut : AtEnd d k (start_of d k) q
          shut = record { few = omega (arith, n); begins = refl; whole = ap (λ (x : List ℕ). start_of d k + length x) (sym here) }

          all : start_of d (suc k) ≡ start_of d k + length b
          all = rw here

          on : {x y : Run St S} → x ≡ y → uncut (close x) bs d.tail ≡ uncut (close y) bs d.tail
          on e = ap (λ (x : Run St S). uncut (close x) bs d.tail) e

          then : {x y : Run St S} → x ≡ y → uncut x bs d.tail ≡ uncut y bs d.tail
          then e = ap (λ (x : Run St S). uncut x bs d.tail) e

          go : Fed k (start_of d k) (start_of d k) (length b) (feed (form_at k (start_of d k)) b)
              → (Inv (suc k) (start_of d (suc k)) (start_of d (suc k)) → Ran (left (suc k) (length bs)) (uncut (form_at (suc k) (start_of d (suc k))) bs d.tail))
              → Ran (left k (suc (length bs))) (uncut (form_at k (start_of d k)) (b ∷ bs) d.tail)
          go (fell r g f c v) more =
              fell r k g (left_first k (length bs) ∙ rw (here, f))
              (on c ∙ then (both v.closes refl) ∙ stay_uncut (stop_at r k (stop_place r)) v bs d.tail)
          go (went f c g) more = by (end_fault k (start_of d k) q) refl
            where
              by : (x : Result ⊤ Refusal) → end_fault k (start_of d k) q ≡ x → Ran (left k (suc (length bs))) (uncut (form_at k (start_of d k)) (b ∷ bs) d.tail)
              by (Ok tt) z = pass (more (rw all (m.end_inv k (start_of d k) q shut g z)))
                where
                  next : uncut (close (feed (form_at k (start_of d k)) b)) bs d.tail ≡ uncut (form_at (suc k) (start_of d (suc k))) bs d.tail
                  next = on c ∙ then (both (m.end_on_lem k (start_of d k) q shut g z) refl ∙ ap (form_at (suc k)) (sym all))

                  pass : Ran (left (suc k) (length bs)) (uncut (form_at (suc k) (start_of d (suc k))) bs d.tail) → Ran (left k (suc (length bs))) (uncut (form_at k (start_of d k)) (b ∷ bs) d.tail)
                  pass (went f' c' g') = went (left_first k (length bs) ∙ rw (here, f, z) f') (next ∙ c') g'
                  pass (fell r j g' f' c') = fell r j g' (left_first k (length bs) ∙ rw (here, f, z) f') (next ∙ c')
              by (Err r) z =
                  fell r k (by_end (start_of d k) q z) (left_first k (length bs) ∙ rw (here, f, z))
                  (on c ∙ then (both (m.end_off k (start_of d k) q r shut g z) refl) ∙ stay_uncut (stop_at r k q) (m.end_still k (start_of d k) q r z) bs d.tail ∙ ap (stop_at r k) (sym (m.end_place k (start_of d k) q r z)))

      -- The whole body, from its first byte.
      pub ran_all : Inv 0 0 0 → Ran (first_fault byte_fault end_fault d) (uncut (form_at 0 0) d.blocks d.tail)
      unfolding first_fault upto
      ran_all h =
          subst (λ (f : Result ⊤ Refusal). Ran f (uncut (form_at 0 0) d.blocks d.tail))
          (ap (λ (f : Result ⊤ Refusal). or_else f (bytes_fault byte_fault end_fault d (ends d)))
          (upto_same or_else (Ok tt) (λ (j : ℕ). block_fault byte_fault end_fault d (0 + j)) (block_fault byte_fault end_fault d) (λ j. ap (block_fault byte_fault end_fault d) (zero-add j)) (ends d)))
          (ran d.blocks 0 refl (zero-add (ends d)) h)
