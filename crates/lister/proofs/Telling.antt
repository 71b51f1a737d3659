-- The lister as a listener: what it has after each byte, item end and mark that is told of an image.
-- Assumes nothing.
use Rattle.std.specs.Prelude.{Option, Result}
use Rattle.std.proofs.Common.{◌≡◌, ℕ, ◌+◌, ◌^◌, ◌<◌, List, [], ◌∷◌, ◌++◌, map, length, sym, refl, ap, ◌∙◌, append_assoc, append-nil, mod-eq_of_lt, arith}
use Rattle.framing.specs.Cuts.{Event, byte, close, mark, items_told, joined}
use Rattle.listing.specs.Lines.{line_of}
use Rattle.files.specs.File.{said_of}
use Rattle.files.specs.Outcomes.{outcome_of}
use Rattle.lister.specs.Listing.{onto, files_of, lines_of}
use Rattle.lister.specs.Turn.{next_number, count_by, text_by}
use Rattle.files.proofs.Items.{Items, items_append}
use Rattle.files.proofs.Form.{file_at, says}
use Rattle.listing.specs.declared.Listed.{Listed}
use Rattle.listing.specs.declared.TurnedAway.{TurnedAway}

-- the items of the file so far, the bytes of the item that is open, the files with a line, and what was printed
pub record Sum : Type 0 where
  pub items : List (List ℕ)
  pub have : List ℕ
  pub count : ℕ
  pub out : List ℕ

abbrev pub tell : ℕ → Sum → Event → Sum
tell cap u (byte b) = record { items = u.items; have = u.have ++ (b ∷ []); count = u.count; out = u.out }
tell cap u close = record { items = u.items ++ (u.have ∷ []); have = []; count = u.count; out = u.out }
tell cap u mark = record {
  items = [];
  have = [];
  count = count_by (said_of (file_at cap u.items u.have)) u.count;
  out = u.out ++ text_by (said_of (file_at cap u.items u.have)) u.count;
}

abbrev pub tell_all : ℕ → Sum → List Event → Sum
tell_all cap u [] = u
tell_all cap u (t ∷ ts) = tell_all cap (tell cap u t) ts

pub tell_append : (cap : ℕ) (u : Sum) (ts us : List Event) → tell_all cap u (ts ++ us) ≡ tell_all cap (tell_all cap u ts) us
tell_append cap u [] us = refl
tell_append cap u (t ∷ ts) us = tell_append cap (tell cap u t) ts us

abbrev pub with_more : Sum → List ℕ → Sum
with_more u bs = record { items = u.items; have = u.have ++ bs; count = u.count; out = u.out }

pub tell_bytes : (cap : ℕ) (u : Sum) (bs : List ℕ) → tell_all cap u (map byte bs) ≡ with_more u bs
tell_bytes cap u [] = ap (λ (l : List ℕ). record { items = u.items; have = l; count = u.count; out = u.out }) (sym (append-nil u.have))
tell_bytes cap u (b ∷ bs) =
    tell_bytes cap (tell cap u (byte b)) bs
    ∙ ap (λ (l : List ℕ). record { items = u.items; have = l; count = u.count; out = u.out }) (append_assoc u.have (b ∷ []) bs)

abbrev pub sum : List (List ℕ) → ℕ → List ℕ → Sum
sum now count out = record { items = now; have = []; count = count; out = out }

-- the items of the file so far go before those of its mark
abbrev before : List (List ℕ) → List (List (List ℕ)) → List (List (List ℕ))
before now [] = []
before now (file ∷ files) = (now ++ file) ∷ files

before_none : (files : List (List (List ℕ))) → before [] files ≡ files
before_none [] = refl
before_none (f ∷ fs) = refl

before_onto : (now : List (List ℕ)) (item : List ℕ) (files : List (List (List ℕ))) → before (now ++ (item ∷ [])) files ≡ before now (onto item files)
before_onto now item [] = refl
before_onto now item (f ∷ fs) = ap (λ (l : List (List ℕ)). l ∷ fs) (append_assoc now (item ∷ []) f)

-- numbers of 64 bits hold as many files as there are
next_number_lem : (count : ℕ) → count + 1 < 2 ^ 64 → next_number count ≡ count + 1
next_number_lem count h = mod-eq_of_lt h

-- what is said of a file with a header item
said_count : (cap : ℕ) (h : List ℕ) (blocks : List (List ℕ)) (count : ℕ) → Items (h ∷ blocks) → count_by (said_of (file_at cap (h ∷ blocks) [])) count ≡ next_number count
said_count cap h blocks count p = ap (λ (m : Option (Result Listed TurnedAway)). count_by m count) (says cap h blocks p).said

said_text : (cap : ℕ) (h : List ℕ) (blocks : List (List ℕ)) (count : ℕ) → Items (h ∷ blocks)
    → text_by (said_of (file_at cap (h ∷ blocks) [])) count ≡ line_of (next_number count) (outcome_of cap h blocks)
said_text cap h blocks count p = let s = says cap h blocks p in ap (λ (m : Option (Result Listed TurnedAway)). text_by m count) s.said ∙ s.line (next_number count)

-- all items told: the lines of their files
tell_files : (cap count : ℕ) (now : List (List ℕ)) (out : List ℕ) (items : List (List ℕ)) → Items now → Items items → count + length items < 2 ^ 64
    → (tell_all cap (sum now count out) (items_told items)).out ≡ out ++ joined (lines_of cap count (before now (files_of items)))
tell_files cap count now out [] p q few = sym (append-nil out)
tell_files cap count [] out ([] ∷ items) p q few =
    tell_files cap count [] (out ++ []) items tt q.1 (omega (arith, few))
    ∙ ap (λ (l : List ℕ). l ++ joined (lines_of cap count (before [] (files_of items)))) (append-nil out)
    ∙ ap (λ (fs : List (List (List ℕ))). out ++ joined (lines_of cap count fs)) (before_none (files_of items))
tell_files cap count (h ∷ blocks) out ([] ∷ items) p q few =
    rw (said_count cap h blocks count p, said_text cap h blocks count p, append-nil blocks, next_number_lem count (omega (arith, few)))
    (tell_files cap (count + 1) [] (out ++ line_of (count + 1) (outcome_of cap h blocks)) items tt q.1 (omega (arith, few))
    ∙ ap (λ (fs : List (List (List ℕ))). (out ++ line_of (count + 1) (outcome_of cap h blocks)) ++ joined (lines_of cap (count + 1) fs)) (before_none (files_of items))
    ∙ append_assoc out _ _)
tell_files cap count now out ((x ∷ xs) ∷ items) p q few =
    let e : tell_all cap (sum now count out) (map byte (x ∷ xs) ++ (close ∷ [])) ≡ sum (now ++ ((x ∷ xs) ∷ [])) count out =
    tell_append cap (sum now count out) (map byte (x ∷ xs)) (close ∷ []) ∙ ap (λ (v : Sum). tell cap v close) (tell_bytes cap (sum now count out) (x ∷ xs)) in
    ap (λ (v : Sum). v.out) (tell_append cap (sum now count out) (map byte (x ∷ xs) ++ (close ∷ [])) (items_told items))
    ∙ ap (λ (v : Sum). (tell_all cap v (items_told items)).out) e
    ∙ tell_files cap count (now ++ ((x ∷ xs) ∷ [])) out items (items_append now ((x ∷ xs) ∷ []) p (q.0, tt)) q.1 (omega (arith, few))
    ∙ ap (λ (fs : List (List (List ℕ))). out ++ joined (lines_of cap count fs)) (before_onto now (x ∷ xs) (files_of items))

pub tell_all_lem : (cap : ℕ) (items : List (List ℕ)) → Items items → length items < 2 ^ 64 → (tell_all cap (sum [] 0 []) (items_told items)).out ≡ joined (lines_of cap 0 (files_of items))
tell_all_lem cap items q few = tell_files cap 0 [] [] items tt q (omega (arith, few)) ∙ ap (λ (fs : List (List (List ℕ))). joined (lines_of cap 0 fs)) (before_none (files_of items))
