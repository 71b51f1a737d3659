-- `stream::reading::Reading::by_code` meets its contract.
-- Assumes nothing.
use Rattle.basis.specs.Choice.{pick}
use Rattle.stream.specs.Bulk.{value_in, words_of}
use Rattle.scan.proofs.Shapes.{shape_parts}
use Rattle.stream.proofs.Readers.{fit_width, width_some}
use Rattle.stream.proofs.Choose.{group24, group44, group48, group15, width_is, by_table, narrow}
use Rattle.std.proofs.Common.{arith}
use Rattle.stream.proofs.reading.Reading.by_code.Goals as goal

pub returns-in-36 : goal.returns-in-36
unfolding value_in words_of pick
returns-in-36 c =
    let e = c.in-36.is in
    let w = width_is 0x0024 _ c.args.self.grouped e group24 in
    (record { value = rw (w, e) c.plain_words.ensures.value; out_after = rw (w, e) c.plain_words.ensures.out_after })

pub returns-in-68 : goal.returns-in-68
unfolding value_in words_of pick
returns-in-68 c =
    let e = c.in-68.is in
    let w = width_is 0x0044 _ c.args.self.grouped e group44 in
    (record { value = rw (w, e) c.plain_words-in-68.ensures.value; out_after = rw (w, e) c.plain_words-in-68.ensures.out_after })

pub returns-in-72 : goal.returns-in-72
unfolding value_in words_of pick
returns-in-72 c =
    let e = c.in-72.is in
    let w = width_is 0x0048 _ c.args.self.grouped e group48 in
    (record { value = rw (w, e) c.plain_words-in-72.ensures.value; out_after = rw (w, e) c.plain_words-in-72.ensures.out_after })

pub returns-in-21 : goal.returns-in-21
returns-in-21 c =
    let e = c.in-21.is in
    let w = width_is 0x0015 _ c.args.self.grouped e group15 in
    (record { value = rw (w, e) c.by_groups.ensures.value; out_after = rw (w, e) c.by_groups.ensures.out_after })

pub bounds-self-0 : goal.bounds-self-0
bounds-self-0 c =
    let n = narrow c.args.self.state.shape.code c.args.self.group c.args.self.grouped (shape_parts c.args.self.state.shape c.args.self.fit.shape).code (width_some c.args.self.group (fit_width c.args.self.state c.args.self.group c.args.self.fit c.args.self.grouped)) (λ z. omega arith) (λ z. omega arith) (λ z. omega arith) (λ z. omega arith) in
    rw (c.args.self.lent n.width) (omega arith)

pub returns-in_default : goal.returns-in_default
unfolding value_in words_of pick
returns-in_default c =
    let n = narrow c.args.self.state.shape.code c.args.self.group c.args.self.grouped (shape_parts c.args.self.state.shape c.args.self.fit.shape).code (width_some c.args.self.group (fit_width c.args.self.state c.args.self.group c.args.self.fit c.args.self.grouped)) (λ z. omega arith) (λ z. omega arith) (λ z. omega arith) (λ z. omega arith) in
    let t = c.args.self.lent n.width in
    record {
      value = rw (n.width, ← by_table n.one) (rw t at c.byte_words.ensures.value);
      out_after = rw (n.width, ← by_table n.one) (rw t at c.byte_words.ensures.out_after);
    }
