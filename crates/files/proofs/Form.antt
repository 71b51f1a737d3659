-- The state of a file in closed form: by the items that it has, and the bytes of the item that is open.
-- Assumes nothing.
use Rattle.std.specs.Prelude.{Err, Ok, Result, Some}
use Prim.Native.Nat.{ℕ, ◌+◌, ◌*◌, ◌/◌, ◌≤◌, ◌<◌}
use mathlib.Core.Path.{◌≡◌, refl, sym, ap, ◌∙◌, subst}
use mathlib.Core.Bool.{Bool, true, false}
use mathlib.Core.List.{List, [], ◌∷◌, ◌++◌}
use native.Mathlib.Nat.{zero-add}
use native.Mathlib.Omega.{arith}
use borrow.Author.Tests.{leb-true, leb-false, lt-leb, le-ltb}
use lib.Dec.{leb}
use lib.IntN.{ℤ}
use lib.ListN.{length, take, length-append}
use Rattle.basis.specs.Choice.{pick}
use Rattle.refusals.specs.declared.Refusal.TheVariants as R
use Rattle.general.specs.General.{code_of}
use Rattle.header.specs.declared.Header.{Header}
use Rattle.header.specs.Answers.{header_answer}
use Rattle.scan.specs.declared.State.{State}
use Rattle.scan.specs.Step.{after}
use Rattle.body.specs.Open.{opened}
use Rattle.body.proofs.Opens.{took, code_is}
use Rattle.framing.specs.Cuts.{joined}
use Rattle.rules.specs.Scans.{shape_of}
use Rattle.rules.specs.Outcome.{closing}
use Rattle.trace_rules.specs.Outcome as TR
use Rattle.trace.specs.declared.State.{State as TraceState}
use Rattle.trace.specs.Step as TS
use Rattle.trace_body.specs.Open as T
use Rattle.listing.specs.declared.Listed.{Listed}
use Rattle.listing.specs.declared.TurnedAway.{TurnedAway}
use Rattle.listing.specs.Lines.{turned_away, line_of}
use Rattle.files.specs.declared.File.{File}
use Rattle.files.specs.declared.File.TheVariants.{Empty, Heading, Large, Refused}
use Rattle.files.specs.Outcomes.{body_in, reported, by_header, outcome_of}
use Rattle.files.specs.File.{of_scans, of_traces, part_of, buffer_after, item_end, headed_by, closed_of, traces_closed, traces_at, said_of}
use Rattle.scan.proofs.Fold.{after_append}
use Rattle.stream.proofs.Cuts.{portion_state}
use Rattle.files.proofs.Items.{Items}
use Rattle.files.proofs.Blocks.{state_after, body_snoc}
use Rattle.files.proofs.ScanPlaces.{scans_place}
use Rattle.files.proofs.TracePlaces.{traces_place}
use Rattle.files.proofs.Closes.{scans_line, traces_line}
use Rattle.files.proofs.Scans as S
use Rattle.files.proofs.Traces as Tr
use Rattle.refusals.specs.declared.Refusal.{Refusal}

-- after the header item h and some blocks, of a file of scans and of one of traces
abbrev scans_after : List ℕ → List (List ℕ) → State
scans_after h = state_after after S.ends (opened h).state

abbrev traces_in : Header → List ℕ → List (List ℕ) → List ℕ → File
traces_in x h blocks have =
    of_traces x.file x.code (length h) (TS.after h (Tr.traces_after h blocks) have) (traces_closed x.file x.code h (Tr.traces_after h blocks))

abbrev bodied : Result Header Refusal → List ℕ → List (List ℕ) → List ℕ → File
bodied (Err r) h blocks have = Refused r
bodied (Ok x) h blocks have = pick (leb 0x8000 x.code) (traces_in x h blocks have) (of_scans x.file x.code (after (scans_after h blocks) have))

abbrev pub file_at : ℕ → List (List ℕ) → List ℕ → File
file_at cap [] [] = Empty
file_at cap [] (x ∷ xs) = pick (leb (length (x ∷ xs)) cap) (Heading (length (x ∷ xs))) Large
file_at cap (h ∷ blocks) part = pick (leb (length h) cap) (bodied (header_answer h) h blocks part) Large

-- the header item, as far as it has come, and that the buffer keeps it where it fits
abbrev pub head_item : List (List ℕ) → List ℕ → List ℕ
head_item [] have = have
head_item (h ∷ blocks) have = h

abbrev pub Kept : List ℕ → List ℕ → Type 0
Kept header item = length item ≤ length header → take (length item) header ≡ item

-- an accepted header's code says of which kind the body is
is_low : (h : List ℕ) (x : Header) → header_answer h ≡ Ok x → leb 0x8000 x.code ≡ false → code_of h < 0x8000
is_low h x e l = subst (λ (n : ℕ). n < 0x8000) (code_is h x e) (leb-false 0x8000 x.code l)

is_high : (h : List ℕ) (x : Header) → header_answer h ≡ Ok x → leb 0x8000 x.code ≡ true → 0x8000 ≤ code_of h
is_high h x e l = subst (λ (n : ℕ). 0x8000 ≤ n) (code_is h x e) (leb-true 0x8000 x.code l)

-- ---- some bytes of an item, with room for their numbers
module _ (header : List ℕ) (numbers : List ℤ) (h : List ℕ) (blocks : List (List ℕ)) (have : List ℕ) (y : ℕ) (ys : List ℕ) (x : Header) (e : header_answer h ≡ Ok x) (room : 2 * length (y ∷ ys) ≤ length numbers) where
  part_scans : Items (h ∷ blocks) → leb 0x8000 x.code ≡ false
      → part_of (of_scans x.file x.code (after (scans_after h blocks) have)) (y ∷ ys) header numbers ≡ of_scans x.file x.code (after (scans_after h blocks) (have ++ (y ∷ ys)))
  part_scans ok l =
      let s = scans_after h blocks in
      let f = S.after_fit s have (S.blocks_fit (opened h).state blocks (S.open_fit h x ok.0 e (is_low h x e l))) in
      ap (of_scans x.file x.code) (portion_state (after s have) (y ∷ ys) (length numbers) room f ∙ sym (after_append s have (y ∷ ys)))

  part_traces : take (length h) header ≡ h → leb 0x8000 x.code ≡ true → part_of (traces_in x h blocks have) (y ∷ ys) header numbers ≡ traces_in x h blocks (have ++ (y ∷ ys))
  part_traces kept l =
      let clear = (took h x e).clear in
      let s = Tr.traces_after h blocks in
      let f = Tr.after_fit h clear s have (Tr.traces_fit h clear (is_high h x e l) blocks) in
      rw kept
      (ap (λ (t : TraceState). of_traces x.file x.code (length h) t (traces_closed x.file x.code h s))
      (Tr.portion_moves h clear (TS.after h s have) (y ∷ ys) (length numbers) room f ∙ sym (Tr.after_append h s have (y ∷ ys))))

pub part_form : (header : List ℕ) (numbers : List ℤ) (items : List (List ℕ)) (have : List ℕ) (y : ℕ) (ys : List ℕ) → Items items → length (y ∷ ys) ≤ length numbers / 2
    → Kept header (head_item items have) → part_of (file_at (length header) items have) (y ∷ ys) header numbers ≡ file_at (length header) items (have ++ (y ∷ ys))
unfolding pick
part_form header numbers [] [] y ys ok room kept = rw zero-add
part_form header numbers [] (x ∷ xs) y ys ok room kept = go (leb (length (x ∷ xs)) (length header)) refl
  where
    go : (t : Bool) → leb (length (x ∷ xs)) (length header) ≡ t
        → part_of (pick t (Heading (length (x ∷ xs))) Large) (y ∷ ys) header numbers ≡ file_at (length header) [] ((x ∷ xs) ++ (y ∷ ys))
    go true e = let l : length (x ∷ xs) + length (y ∷ ys) ≡ length ((x ∷ xs) ++ (y ∷ ys)) = sym (length-append (x ∷ xs) (y ∷ ys)) in rw l
    go false e =
        let h : length header < length (x ∷ xs) = leb-false (length (x ∷ xs)) (length header) e in
        let l : length ((x ∷ xs) ++ (y ∷ ys)) ≡ length (x ∷ xs) + length (y ∷ ys) = length-append (x ∷ xs) (y ∷ ys) in
        let f : leb (length ((x ∷ xs) ++ (y ∷ ys))) (length header) ≡ false = lt-leb (length ((x ∷ xs) ++ (y ∷ ys))) (length header) (omega arith) in
        rw f
part_form header numbers (h ∷ blocks) have y ys ok room kept = go (leb (length h) (length header)) refl (header_answer h) refl
  where
    roomy : 2 * length (y ∷ ys) ≤ length numbers
    roomy = omega (arith, room)

    by : (x : Header) → header_answer h ≡ Ok x → length h ≤ length header → (k : Bool) → leb 0x8000 x.code ≡ k
        → part_of (pick k (traces_in x h blocks have) (of_scans x.file x.code (after (scans_after h blocks) have))) (y ∷ ys) header numbers
        ≡ pick k (traces_in x h blocks (have ++ (y ∷ ys))) (of_scans x.file x.code (after (scans_after h blocks) (have ++ (y ∷ ys))))
    by x e l true q = part_traces header numbers h blocks have y ys x e roomy (kept l) q
    by x e l false q = part_scans header numbers h blocks have y ys x e roomy ok q

    go : (t : Bool) → leb (length h) (length header) ≡ t → (d : Result Header Refusal) → header_answer h ≡ d
        → part_of (pick t (bodied d h blocks have) Large) (y ∷ ys) header numbers ≡ pick t (bodied d h blocks (have ++ (y ∷ ys))) Large
    go true l (Err r) e = refl
    go true l (Ok x) e = by x e (leb-true (length h) (length header) l) (leb 0x8000 x.code) refl
    go false l d e = refl

-- the buffer is left alone once the header item has ended
pub buffer_stays : (cap : ℕ) (h : List ℕ) (blocks : List (List ℕ)) (have bytes header : List ℕ) → buffer_after (file_at cap (h ∷ blocks) have) bytes header ≡ header
unfolding pick
buffer_stays cap h blocks have bytes header = go (leb (length h) cap) (header_answer h)
  where
    by : (x : Header) (k : Bool) → buffer_after (pick k (traces_in x h blocks have) (of_scans x.file x.code (after (scans_after h blocks) have))) bytes header ≡ header
    by x true = refl
    by x false = refl

    go : (t : Bool) (d : Result Header Refusal) → buffer_after (pick t (bodied d h blocks have) Large) bytes header ≡ header
    go true (Err r) = refl
    go true (Ok x) = by x (leb 0x8000 x.code)
    go false d = refl

-- ---- the end of an item; the buffer has a header item that fits
pub end_form : (header : List ℕ) (items : List (List ℕ)) (x : ℕ) (xs : List ℕ) → Kept header (head_item items (x ∷ xs))
    → item_end (file_at (length header) items (x ∷ xs)) header ≡ file_at (length header) (items ++ ((x ∷ xs) ∷ [])) []
unfolding pick
end_form header [] x xs kept = go (leb (length (x ∷ xs)) (length header)) refl
  where
    by : (h : Header) (k : Bool)
        → pick k (traces_at h.file h.code (length (x ∷ xs)) (x ∷ xs) (T.opened (x ∷ xs))) (of_scans h.file h.code (opened (x ∷ xs)).state)
        ≡ pick k (traces_in h (x ∷ xs) [] []) (of_scans h.file h.code (after (scans_after (x ∷ xs) []) []))
    by h true =
        ap (λ (s : TraceState). of_traces h.file h.code (length (x ∷ xs)) s (traces_closed h.file h.code (x ∷ xs) (T.opened (x ∷ xs))))
        (sym (Tr.after_none (x ∷ xs) (T.opened (x ∷ xs))))
    by h false = ap (of_scans h.file h.code) (sym (S.after_none (opened (x ∷ xs)).state))

    empty : (d : Result Header Refusal) → headed_by d (x ∷ xs) ≡ bodied d (x ∷ xs) [] []
    empty (Err r) = refl
    empty (Ok h) = by h (leb 0x8000 h.code)

    go : (t : Bool) → leb (length (x ∷ xs)) (length header) ≡ t
        → item_end (pick t (Heading (length (x ∷ xs))) Large) header ≡ pick t (bodied (header_answer (x ∷ xs)) (x ∷ xs) [] []) Large
    go true e =
        let h : length (x ∷ xs) ≤ length header = leb-true (length (x ∷ xs)) (length header) e in
        rw (le-ltb (length header) (length (x ∷ xs)) h, kept h) (empty (header_answer (x ∷ xs)))
    go false e = refl
end_form header (h ∷ blocks) x xs kept = go (leb (length h) (length header)) refl (header_answer h)
  where
    after_all : (a : Header) → take (length h) header ≡ h → item_end (traces_in a h blocks (x ∷ xs)) header ≡ traces_in a h (blocks ++ ((x ∷ xs) ∷ [])) []
    after_all a q =
        let s : Tr.ends h (TS.after h (Tr.traces_after h blocks) (x ∷ xs)) ≡ Tr.traces_after h (blocks ++ ((x ∷ xs) ∷ [])) =
        sym (body_snoc (TS.after h) (Tr.ends h) (T.opened h) blocks (x ∷ xs)) in
        rw q
        (ap (λ (t : TraceState). traces_at a.file a.code (length h) h t) s
        ∙ ap (λ (t : TraceState). of_traces a.file a.code (length h) t (traces_closed a.file a.code h (Tr.traces_after h (blocks ++ ((x ∷ xs) ∷ [])))))
        (sym (Tr.after_none h (Tr.traces_after h (blocks ++ ((x ∷ xs) ∷ []))))))

    by : (a : Header) → length h ≤ length header → (k : Bool)
        → item_end (pick k (traces_in a h blocks (x ∷ xs)) (of_scans a.file a.code (after (scans_after h blocks) (x ∷ xs)))) header
        ≡ pick k (traces_in a h (blocks ++ ((x ∷ xs) ∷ [])) []) (of_scans a.file a.code (after (scans_after h (blocks ++ ((x ∷ xs) ∷ []))) []))
    by a l true = after_all a (kept l)
    by a l false = ap (of_scans a.file a.code) (sym (S.after_none _ ∙ body_snoc after S.ends (opened h).state blocks (x ∷ xs)))

    go : (t : Bool) → leb (length h) (length header) ≡ t → (d : Result Header Refusal)
        → item_end (pick t (bodied d h blocks (x ∷ xs)) Large) header ≡ pick t (bodied d h (blocks ++ ((x ∷ xs) ∷ [])) []) Large
    go true l (Err r) = refl
    go true l (Ok a) = by a (leb-true (length h) (length header) l) (leb 0x8000 a.code)
    go false l d = refl

-- ---- what is said at the mark
-- a line, whose text is that of an outcome
pub record Says (f : File) (o : Result Listed TurnedAway) : Type 0 where
  pub given : Result Listed TurnedAway
  pub said : said_of f ≡ Some given
  pub line : (n : ℕ) → line_of n given ≡ line_of n o

module _ (h : List ℕ) (blocks : List (List ℕ)) (ok : Items (h ∷ blocks)) (a : Header) (e : header_answer h ≡ Ok a) where
  says_scans : leb 0x8000 a.code ≡ false
      → Says (of_scans a.file a.code (after (scans_after h blocks) [])) (reported a.file a.code (length (joined blocks)) (closing (shape_of h) (body_in blocks)))
  says_scans l =
      let s = scans_after h blocks in
      let m = is_low h a e l in
      record {
        given = closed_of a.file a.code s;
        said = ap (λ (x : State). Some (closed_of a.file a.code x)) (S.after_none s);
        line = λ n. scans_line n a.file a.code s (length (joined blocks)) (closing (shape_of h) (body_in blocks)) (S.closes h a ok.0 e m blocks ok.1)
            (S.blocks_fit (opened h).state blocks (S.open_fit h a ok.0 e m)) (scans_place h a e m blocks);
      }

  says_traces : leb 0x8000 a.code ≡ true
      → Says (traces_in a h blocks []) (reported a.file a.code (length (joined blocks)) (TR.closing h (body_in blocks)))
  says_traces l =
      let s = Tr.traces_after h blocks in
      let m = is_high h a e l in
      let clear = (took h a e).clear in
      record {
        given = traces_closed a.file a.code h s;
        said = refl;
        line = λ n. traces_line n a.file a.code h s (length (joined blocks)) (TR.closing h (body_in blocks)) clear (Tr.traces_close h clear m blocks ok.1)
            (Tr.traces_fit h clear m blocks) (traces_place h blocks);
      }

-- of a file with a header item: by the rules of its items
pub says : (cap : ℕ) (h : List ℕ) (blocks : List (List ℕ)) → Items (h ∷ blocks) → Says (file_at cap (h ∷ blocks) []) (outcome_of cap h blocks)
unfolding pick
says cap h blocks ok = go (leb (length h) cap) (header_answer h) refl
  where
    by : (a : Header) → header_answer h ≡ Ok a → (k : Bool) → leb 0x8000 a.code ≡ k
        → Says (pick k (traces_in a h blocks []) (of_scans a.file a.code (after (scans_after h blocks) [])))
        (reported a.file a.code (length (joined blocks)) (pick k (TR.closing h (body_in blocks)) (closing (shape_of h) (body_in blocks))))
    by a e true l = says_traces h blocks ok a e l
    by a e false l = says_scans h blocks ok a e l

    go : (t : Bool) (d : Result Header Refusal) → header_answer h ≡ d → Says (pick t (bodied d h blocks []) Large) (pick t (by_header d h blocks) (turned_away R.Large 0))
    go true (Err r) e = record { given = turned_away r 0; said = refl; line = λ n. refl }
    go true (Ok a) e = by a e (leb 0x8000 a.code) refl
    go false d e = record { given = turned_away R.Large 0; said = refl; line = λ n. refl }
