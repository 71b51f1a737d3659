-- The lister's steps follow what is told of the image.
-- Assumes nothing.
use Rattle.std.proofs.Common.{◌≡◌, ℕ, ◌+◌, ◌/◌, ◌<◌, ◌≤◌, Bool, true, false, leb, List, [], ◌∷◌, ◌++◌, map, length, take, drop, ℤ, refl, ap, ◌∙◌, subst, append-nil, arith, length-append, take_at, le-leb}
use lib.Seq.{sets, sets-eq, length-sets}
use Rattle.basis.specs.Choice.{pick}
use Rattle.framing.specs.declared.Met.{Met}
use Rattle.framing.specs.declared.Met.TheVariants.{Framing, Part, Whole, Mark}
use Rattle.framing.specs.Cuts.{byte, close, mark, tells}
use Rattle.listing.specs.Lent.{stored_in}
use Rattle.files.specs.declared.File.{File}
use Rattle.files.specs.declared.File.TheVariants.{Empty, Heading, Large, Refused, Blocks, Traces}
use Rattle.files.specs.File.{part_of, buffer_after, numbers_after, item_end, said_of}
use Rattle.agree.specs.Calls.{Bytes}
use Rattle.lister.specs.Turn.{said_at, count_by, text_by, heard_file, heard_header, heard_numbers}
use Rattle.files.proofs.Scans.{numbers_length}
use Rattle.files.proofs.Traces as T
use Rattle.files.proofs.Items.{Items, items_append}
use Rattle.lister.proofs.Bytes.{bytes_append}
use Rattle.files.proofs.Form.{file_at, head_item, Kept, part_form, buffer_stays, end_form}
use Rattle.lister.proofs.Telling.{Sum, tell, tell_all, tell_append, tell_bytes, with_more}

-- the lister has what was told; the header's buffer keeps the bytes of a header item that fits
pub record Rel (u : Sum) (f : File) (count : ℕ) (header out : List ℕ) : Type 0 where
  pub file_is : f ≡ file_at (length header) u.items u.have
  pub count_is : count ≡ u.count
  pub out_is : out ≡ u.out
  pub whole : Items u.items
  pub some : Bytes u.have
  pub kept : Kept header (head_item u.items u.have)

stored_length : (header bytes : List ℕ) (at : ℕ) → length (stored_in header at bytes) ≡ length header
unfolding pick
stored_length header bytes at = go (leb (at + length bytes) (length header))
  where
    go : (t : Bool) → length (pick t (sets header at bytes) header) ≡ length header
    go true = length-sets header at bytes
    go false = refl

pub buffer_length : (f : File) (bytes header : List ℕ) → length (buffer_after f bytes header) ≡ length header
buffer_length Empty bytes header = stored_length header bytes 0
buffer_length (Heading got) bytes header = stored_length header bytes got
buffer_length Large bytes header = refl
buffer_length (Refused r) bytes header = refl
buffer_length (Blocks b) bytes header = refl
buffer_length (Traces t) bytes header = refl

numbers_kept : (f : File) (bytes header : List ℕ) (numbers : List ℤ) → length (numbers_after f bytes header numbers) ≡ length numbers
numbers_kept Empty bytes header numbers = refl
numbers_kept (Heading got) bytes header numbers = refl
numbers_kept Large bytes header numbers = refl
numbers_kept (Refused r) bytes header numbers = refl
numbers_kept (Blocks b) bytes header numbers = numbers_length b.state bytes numbers
numbers_kept (Traces t) bytes header numbers = T.numbers_length (take t.got header) t.state bytes numbers

stored_kept : (header have bytes : List ℕ) → length have + length bytes ≤ length header → take (length have) header ≡ have
    → take (length (have ++ bytes)) (stored_in header (length have) bytes) ≡ have ++ bytes
unfolding pick
stored_kept header have bytes h e =
    rw (le-leb (length have + length bytes) (length header) h, sets-eq bytes header (length have) h, e)
    (take_at (have ++ bytes) (drop (length have + length bytes) header) (length (have ++ bytes)) refl)

buffer_kept : (header have bytes : List ℕ) → length (have ++ bytes) ≤ length header → take (length have) header ≡ have
    → take (length (have ++ bytes)) (buffer_after (file_at (length header) [] have) bytes header) ≡ have ++ bytes
unfolding pick
buffer_kept header [] bytes h e = stored_kept header [] bytes (omega arith) e
buffer_kept header (x ∷ xs) bytes h e =
    let l : length ((x ∷ xs) ++ bytes) ≡ length (x ∷ xs) + length bytes = length-append (x ∷ xs) bytes in
    let t : leb (length (x ∷ xs)) (length header) ≡ true = le-leb (length (x ∷ xs)) (length header) (omega arith) in
    rw t (stored_kept header (x ∷ xs) bytes (omega arith) e)

-- some bytes of an item
hear_part : (u : Sum) (f : File) (count : ℕ) (header : List ℕ) (numbers : List ℤ) (out : List ℕ) (y : ℕ) (ys : List ℕ) → length (y ∷ ys) ≤ length numbers / 2 → Bytes (y ∷ ys)
    → Rel u f count header out
    → Rel (with_more u (y ∷ ys)) (part_of f (y ∷ ys) header numbers) count (buffer_after f (y ∷ ys) header) out
hear_part u f count header numbers out y ys room ok r = record {
  file_is = rw (buffer_length f (y ∷ ys) header, r.file_is) (part_form header numbers u.items u.have y ys r.whole room r.kept);
  count_is = r.count_is;
  out_is = r.out_is;
  whole = r.whole;
  some = bytes_append u.have (y ∷ ys) r.some ok;
  kept = λ h. rw r.file_is (keep u.items r.kept (rw (buffer_length f (y ∷ ys) header) at h));
}
  where
    keep : (items : List (List ℕ)) → Kept header (head_item items u.have) → length (head_item items (u.have ++ (y ∷ ys))) ≤ length header
        → take (length (head_item items (u.have ++ (y ∷ ys)))) (buffer_after (file_at (length header) items u.have) (y ∷ ys) header) ≡ head_item items (u.have ++ (y ∷ ys))
    keep [] k h =
        let l : length (u.have ++ (y ∷ ys)) ≡ length u.have + length (y ∷ ys) = length-append u.have (y ∷ ys) in
        buffer_kept header u.have (y ∷ ys) h (k (omega arith))
    keep (i ∷ is) k h = rw (buffer_stays (length header) i is u.have (y ∷ ys) header) (k h)

-- the end of an item, after some of its bytes
hear_end : (u : Sum) (f : File) (count : ℕ) (header out : List ℕ) (x : ℕ) (xs : List ℕ) → u.have ≡ x ∷ xs → Rel u f count header out
    → Rel (tell (length header) u close) (item_end f header) count header out
hear_end u f count header out x xs e r = record {
  file_is = rw (r.file_is, e) (end_form header u.items x xs (subst (λ (l : List ℕ). Kept header (head_item u.items l)) e r.kept));
  count_is = r.count_is;
  out_is = r.out_is;
  whole = items_append u.items (u.have ∷ []) r.whole (r.some, tt);
  some = tt;
  kept = ended u.items r.kept;
}
  where
    -- an item more leaves the header item what it is
    ended : (items : List (List ℕ)) → Kept header (head_item items u.have) → Kept header (head_item (items ++ (u.have ∷ [])) [])
    ended [] k = k
    ended (i ∷ is) k = k

hear_whole : (u : Sum) (f : File) (count : ℕ) (header : List ℕ) (numbers : List ℤ) (out : List ℕ) (y : ℕ) (ys : List ℕ) → length (y ∷ ys) ≤ length numbers / 2 → Bytes (y ∷ ys)
    → Rel u f count header out
    → Rel (tell (length header) (with_more u (y ∷ ys)) close) (item_end (part_of f (y ∷ ys) header numbers) (buffer_after f (y ∷ ys) header)) count (buffer_after f (y ∷ ys) header) out
hear_whole u f count header numbers out y ys room ok r = go u.have refl
  where
    end : (x : ℕ) (xs : List ℕ) → u.have ++ (y ∷ ys) ≡ x ∷ xs
        → Rel (tell (length header) (with_more u (y ∷ ys)) close) (item_end (part_of f (y ∷ ys) header numbers) (buffer_after f (y ∷ ys) header)) count (buffer_after f (y ∷ ys) header) out
    end x xs e = hear_end (with_more u (y ∷ ys)) (part_of f (y ∷ ys) header numbers) count (buffer_after f (y ∷ ys) header) out x xs e (hear_part u f count header numbers out y ys room ok r)

    go : (l : List ℕ) → u.have ≡ l
        → Rel (tell (length header) (with_more u (y ∷ ys)) close) (item_end (part_of f (y ∷ ys) header numbers) (buffer_after f (y ∷ ys) header)) count (buffer_after f (y ∷ ys) header) out
    go [] e = end y ys (ap (λ (l : List ℕ). l ++ (y ∷ ys)) e)
    go (x ∷ xs) e = end x (xs ++ (y ∷ ys)) (ap (λ (l : List ℕ). l ++ (y ∷ ys)) e)

-- with the lengths of the two buffers
pub record Good (cap most : ℕ) (u : Sum) (f : File) (count : ℕ) (header : List ℕ) (numbers : List ℤ) (out : List ℕ) : Type 0 where
  pub rel : Rel u f count header out
  pub size : length header ≡ cap
  pub half : most ≤ length numbers / 2

hear_mark : (u : Sum) (f : File) (count : ℕ) (header out : List ℕ) → Rel u f count header out
    → Rel (tell (length header) u mark) Empty (count_by (said_of f) count) header (out ++ text_by (said_of f) count)
hear_mark u f count header out r =
    rw (← r.file_is, ← r.count_is, ← r.out_is)
    (record { file_is = refl; count_is = refl; out_is = refl; whole = tt; some = tt; kept = λ h. refl })

quiet : {u : Sum} {f : File} {count : ℕ} {header : List ℕ} (out : List ℕ) → Rel u f count header out → Rel u f count header (out ++ [])
quiet {u} {f} {count} {header} out r = rw (append-nil out) r

-- an answer of `next` that passed bytes of an item passed one at least
abbrev pub Some : Met → List ℕ → Type 0
Some Framing p = Unit {0}
Some Part p = 0 < length p
Some Whole p = 0 < length p
Some Mark p = Unit {0}

-- whatever an answer of `next` brings
pub hear_any : (most : ℕ) (u : Sum) (f : File) (count : ℕ) (header : List ℕ) (numbers : List ℤ) (out : List ℕ) (m : Met) (p : List ℕ) → Some m p → length p ≤ most → Bytes p
    → Good (length header) most u f count header numbers out
    → Good (length header) most (tell_all (length header) u (tells m p)) (heard_file f m p header numbers) (count_by (said_at f m) count)
    (heard_header f m p header) (heard_numbers f m p header numbers) (out ++ text_by (said_at f m) count)
hear_any most u f count header numbers out Framing p h k ok g = record { rel = quiet out g.rel; size = refl; half = g.half }
hear_any most u f count header numbers out Part [] h k ok g = absurd (omega arith)
hear_any most u f count header numbers out Part (y ∷ ys) h k ok g =
    rw (tell_bytes (length header) u (y ∷ ys))
    (record {
      rel = quiet out (hear_part u f count header numbers out y ys (omega (arith, k, g.half)) ok g.rel);
      size = buffer_length f (y ∷ ys) header;
      half = rw (numbers_kept f (y ∷ ys) header numbers) g.half;
    })
hear_any most u f count header numbers out Whole [] h k ok g = absurd (omega arith)
hear_any most u f count header numbers out Whole (y ∷ ys) h k ok g =
    let e : tell_all (length header) u (map byte (y ∷ ys) ++ (close ∷ [])) ≡ tell (length header) (with_more u (y ∷ ys)) close =
    tell_append (length header) u (map byte (y ∷ ys)) (close ∷ []) ∙ ap (λ (v : Sum). tell (length header) v close) (tell_bytes (length header) u (y ∷ ys)) in
    rw e
    (record {
      rel = quiet out (hear_whole u f count header numbers out y ys (omega (arith, k, g.half)) ok g.rel);
      size = buffer_length f (y ∷ ys) header;
      half = rw (numbers_kept f (y ∷ ys) header numbers) g.half;
    })
hear_any most u f count header numbers out Mark p h k ok g = record { rel = hear_mark u f count header out g.rel; size = refl; half = g.half }
