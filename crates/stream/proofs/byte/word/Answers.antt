-- `stream::byte::word` meets its contract.
-- Assumes nothing.
use Rattle.std.proofs.Common.{sym, ◌∙◌}
use Rattle.stream.proofs.Spots.{word_gives, word_leads, word_none}
use Rattle.stream.proofs.byte.word.Goals as goal

pub returns-then-word_ends : goal.returns-then-word_ends
returns-then-word_ends c =
    let z = c in
    let e = word_gives z.args.s z.args.b _ z.args.q z.requires.code_value.0 (sym c.word_ends.ensures ∙ c.if-word_ends.true) in
    rw (c.sample.ensures, c.read.ensures, c.low.ensures, c.word_bytes.ensures, c.exponent-c.ensures, c.shift-held.ensures) (sym e)

pub returns-then-leads : goal.returns-then-leads
returns-then-leads c =
    let z = c in
    let e = word_leads z.args.s z.args.b _ z.args.q z.requires.code_value.0 (sym c.word_ends.ensures ∙ c.if-word_ends.false) (sym c.leads.ensures ∙ c.if-leads.true) in
    rw (c.still.ensures, c.moved.ensures, c.low-then-leads.ensures, c.shift-held.ensures) (sym e)

pub returns : goal.returns
returns c =
    let z = c in
    let e = word_none z.args.s z.args.b _ z.args.q z.requires.code_value.0 (sym c.word_ends.ensures ∙ c.if-word_ends.false) (sym c.leads.ensures ∙ c.if-leads.false) in
    rw c.quiet.ensures (sym e)
