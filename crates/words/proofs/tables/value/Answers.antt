-- `words::tables::value` meets its contract.
-- Assumes nothing.
use Rattle.std.proofs.Common.{ℕ, suc, ℤ, ◌≡◌, ◌/◌, ◌%◌, ◌-◌, Bool, List, arith}
use lib.ListN.{get_or}
use mir.Syntax.{w32}
use mir.Val.{to_z}
use Rattle.basis.specs.Choice.{pick}
use Rattle.words.specs.Words.{value_of}
use Rattle.words.specs.Tables.{byte_code, signed_of, tabled}
use Rattle.std.proofs.lemmas.Grind.{common_steps}
use Rattle.words.proofs.tables.value.Goals as goal

-- the library's number of 32 bits in two's complement
signed : (n : ℕ) → to_z w32 n ≡ signed_of n
unfolding signed_of pick
signed n = let e : 0x100000000 - suc n ≡ 0xFFFFFFFF - n = omega arith in rw e

-- what an entry says
from-entry : (table : List ℕ) (code b : ℕ) {e : ℕ} {m x : ℤ} {o : Bool} → e ≡ get_or table b 0 → o ≡ (value_of (byte_code code) 0 b).off
    → m ≡ signed_of (e % 0x100000000) → x ≡ signed_of (e / 0x100000000) → record { m = m; x = x; off = o } ≡ tabled table code b
unfolding tabled
from-entry table code b h s p q = rw (p, q, s, h)

pub returns : goal.returns
returns c = from-entry _ _ _ c.entry-e.ensures c.off-off.ensures (grind (arith, common_steps, signed)) (grind (arith, common_steps, signed))
