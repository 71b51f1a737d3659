-- `words::sample` meets its contract.
-- Assumes nothing.
use Prim.Native.Nat.{◌+◌, ◌-◌, ◌^◌, ◌<◌}
use mathlib.Core.Path.{◌∙◌}
use native.Mathlib.Omega.{arith}
use native.Mathlib.Nat.{mul-le-mul}
use Rattle.basis.proofs.FieldLaws.{field_below}
use Rattle.basis.proofs.Numbers.{below_pow}
use Rattle.words.proofs.Joins.{exponent_below}
use Rattle.words.proofs.Parts.{from_parts, any_bit}
use borrow.Author.Rules.{rules}
use Rattle.words.proofs.sample.Goals as goal

pub overflow_add-e : goal.overflow_add-e
overflow_add-e c =
    let f = c.requires in
    let b : c.bits.result < 2 ^ 7 = rw c.bits.ensures (field_below _ _ _ 7 (omega (arith, f.sound.small))) in
    omega (arith, b, below_pow _ 4 f.c_bits f.sound.short)

pub signed_fraction-requires : goal.signed_fraction-requires
signed_fraction-requires c =
    (omega (arith, c.requires.sound.few), rw c.bits-q.ensures (field_below _ _ _ _ (search rules)))

pub power-requires : goal.power-requires
power-requires c =
    let r = c.args.r in
    let f = c.requires in
    let s = f.sound in
    let b : c.bits.result < 2 ^ 7 = rw c.bits.ensures (field_below _ _ _ 7 (omega (arith, s.small))) in
    omega (arith, s.few, mul-le-mul {n₁ = r.base} {m₁ = c.args.c + c.bits.result} {n₂ = 4} {m₂ = 256} s.hex (omega (arith, b, below_pow r.apart 4 f.c_bits s.short)), mul-le-mul s.hex s.half)

pub off_rule-requires : goal.off_rule-requires
off_rule-requires c =
    let r = c.args.r in
    let f = c.requires in
    let s = f.sound in
    let e : c.bits.result < 2 ^ (r.exponent - r.apart) = rw c.bits.ensures (field_below _ _ _ _ (search rules)) in
    let one : c.bits-s.result < 2 ^ 1 = rw c.bits-s.ensures (field_below _ _ _ 1 (omega arith)) in (
      s.some,
      omega (arith, s.few),
      omega (arith, s.small),
      omega (arith, one),
      exponent_below s.inside f.c_bits e,
      rw c.bits-q.ensures (field_below _ _ _ _ (search rules)),
      any_bit (r.exponent - r.apart) r.fraction (r.width - 1 - r.exponent - r.fraction) c.args.c c.args.word {at = r.width - r.apart - 1} {w = r.width - r.apart}
          (omega (arith, s.whole, s.inside)) (omega (arith, s.whole, s.inside)) f.word_bits
          c.bits-s.ensures c.bits.ensures c.bits-q.ensures c.bits-last.ensures,
    )

pub returns : goal.returns
returns c =
    from_parts c.args.r c.args.c c.args.word
    c.bits-s.ensures c.bits.ensures c.bits-q.ensures c.bits-last.ensures
    (search rules ∙ c.signed_fraction.ensures) (search rules ∙ c.power.ensures) c.off_rule.ensures
