-- Which loop runs a code's words.
-- Assumes nothing.
use Rattle.std.specs.Prelude.{None, Option, Some}
use Rattle.std.proofs.Common.{◌≡◌, ℕ, suc, ◌*◌, ◌<◌, Bool, true, false, ◌||◌, T, eqb, leb, List, sym, refl, ap, ◌∙◌, one-mul, arith, eqb→eq, ne_eqb, eqb-true}
use borrow.Author.Tests.{lt-leb}
use Rattle.basis.specs.Choice.{pick}
use Rattle.basis.specs.Digits.{byte_in}
use Rattle.codes.specs.declared.Row.{Row}
use Rattle.codes.specs.Codes.{table, find_in, row_of, group_in, group_of}
use Rattle.codes.proofs.Rows.{holds, row_code, group_none}
use Rattle.words.specs.Words.{value_of}
use Rattle.words.specs.Tables.{OneByte, is22, is42, table_of}
use Rattle.words.proofs.Entries.{table_says}
use Rattle.runs.specs.Words.{tabled_at, plain_value}
use Rattle.runs.proofs.Bytes.{written_one}

pub group24 : group_of 0x0024 ≡ 2
unfolding group_of row_of find_in table group_in pick
group24 = refl

pub group44 : group_of 0x0044 ≡ 2
unfolding group_of row_of find_in table group_in pick
group44 = refl

pub group48 : group_of 0x0048 ≡ 4
unfolding group_of row_of find_in table group_in pick
group48 = refl

pub group15 : group_of 0x0015 ≡ 10
unfolding group_of row_of find_in table group_in pick
group15 = refl

group22 : group_of 0x0022 ≡ 1
unfolding group_of row_of find_in table group_in pick
group22 = refl

group42 : group_of 0x0042 ≡ 1
unfolding group_of row_of find_in table group_in pick
group42 = refl

pub width_is : {code w : ℕ} (c g : ℕ) → group_of code ≡ w → code ≡ c → group_of c ≡ g → w ≡ g
width_is c g d e k = sym d ∙ ap group_of e ∙ k

-- a multiplexed code is one of six
abbrev six : Row → Bool
six r =
    leb 0x8000 r.code
    || (eqb r.code 0x0024 || (eqb r.code 0x0044 || (eqb r.code 0x0048 || (eqb r.code 0x0015 || (eqb r.code 0x0022 || eqb r.code 0x0042)))))

all_six : (code : ℕ) (r : Row) → row_of code ≡ Some r → T (six r)
unfolding row_of find_in table
all_six code r e = holds six table code r tt e

-- the words of a code whose words have one byte are what its table says
pub by_table : {code : ℕ} → OneByte code → tabled_at (table_of code) code ≡ plain_value code 1
unfolding tabled_at plain_value
by_table {code} o = λ i bs k. at bs k i
  where
    at : (bs : List ℕ) (k : ℕ) → tabled_at (table_of code) code bs k ≡ plain_value code 1 bs k
    at bs k = table_says (byte_in bs k) o ∙ ap (λ (x : ℕ). value_of code 0 x) (sym (written_one (byte_in bs) (1 * k) ∙ ap (byte_in bs) (one-mul k)))

-- groups of one byte are of such a code
pub record Narrow (code w : ℕ) : Type 0 where
  pub width : w ≡ 1
  pub one : OneByte code

-- a multiplexed code that is none of the other four
pub narrow : (code w : ℕ) → group_of code ≡ w → code < 0x8000 → 0 < w → (code ≡ 0x0024 → ⊥) → (code ≡ 0x0044 → ⊥) → (code ≡ 0x0048 → ⊥) → (code ≡ 0x0015 → ⊥) → Narrow code w
narrow code w g low some n24 n44 n48 n15 = go (row_of code) refl
  where
    two : (t : Bool) → eqb code 0x0022 ≡ t → T (t || eqb code 0x0042) → Narrow code w
    two true e h =
        let z = eqb-true code 0x0022 e in
        record { width = width_is 0x0022 1 g z group22; one = is22 z }
    two false e h =
        let z = eqb→eq code 0x0042 h in
        record { width = width_is 0x0042 1 g z group42; one = is42 z }

    go : (f : Option Row) → row_of code ≡ f → Narrow code w
    go None e = absurd (omega (arith, g, group_none code e))
    go (Some r) e =
        let t : T (leb 0x8000 r.code || (eqb r.code 0x0024 || (eqb r.code 0x0044 || (eqb r.code 0x0048 || (eqb r.code 0x0015 || (eqb r.code 0x0022 || eqb r.code 0x0042)))))) = all_six code r e in
        two (eqb code 0x0022) refl (rw (row_code code r e, lt-leb 0x8000 code low, ne_eqb code 0x0024 n24, ne_eqb code 0x0044 n44, ne_eqb code 0x0048 n48, ne_eqb code 0x0015 n15) at t)

-- a code that is neither of the two has wider groups
pub wide : (code w : ℕ) → group_of code ≡ w → code < 0x8000 → (code ≡ 0x0022 → ⊥) → (code ≡ 0x0042 → ⊥) → w ≡ 1 → ⊥
wide code w g low n22 n42 e = neither (narrow code w g low (omega arith) (other group24) (other group44) (other group48) (other group15)).one
  where
    other : {c k : ℕ} → group_of c ≡ suc (suc k) → code ≡ c → ⊥
    other p z = absurd (omega (arith, g, e, ap group_of z, p))

    neither : OneByte code → ⊥
    neither (is22 z) = n22 z
    neither (is42 z) = n42 z
