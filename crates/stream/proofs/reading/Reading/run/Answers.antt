-- `stream::reading::Reading::run` meets its contract.
-- Assumes nothing.
use Rattle.std.proofs.Common.{length, sym, ◌∙◌, arith}
use Rattle.stream.proofs.Parts.{spread_front}
use Rattle.stream.proofs.Whole.{comes, ran_off, ran_samples, ran_chunk, filled_wrote}
use Rattle.stream.proofs.Readers.{fit_width}
use Rattle.stream.proofs.reading.Reading.run.Goals as goal

pub group_place-g-requires : goal.group_place-g-requires
group_place-g-requires c =
    let z = c in
    (z.requires.able.low, fit_width z.args.self.state z.args.self.group z.requires.able.fit z.requires.able.group)

pub by_code-r-requires : goal.by_code-r-requires
by_code-r-requires c =
    let z = c in
    let a = z.requires.able in
    rw c.group_place-g.ensures (spread_front a.words)

pub ran_to-requires-clause-off_in_bounds : goal.ran_to-requires-clause-off_in_bounds
ran_to-requires-clause-off_in_bounds c =
    let z = c in
    (ran_off z.args.self.state z.args.self.group _ z.args.bytes.now z.args.out.now _ c.by_code-r.ensures.value)

pub overflow_mul-result : goal.overflow_mul-result
overflow_mul-result c =
    let z = c in
    omega (arith, ran_samples z.args.self.state z.args.self.group _ z.args.bytes.now z.args.out.now _ c.by_code-r.ensures.value, z.requires.bytes_in_bounds, z.well_formed)

pub returns : goal.returns
returns c =
    let z = c in
    let a = z.requires.able in
    let k = comes z.args.self.state z.args.self.group _ z.args.bytes.now (length z.args.out.now) a (sym c.group_place-g.ensures) (λ i. omega (arith, c.type_inv.bytes i)) z.requires.bytes_in_bounds (fit_width z.args.self.state z.args.self.group a.fit a.group) in
    (record { value = ran_chunk z.args.self.state z.args.self.group _ z.args.bytes.now z.args.out.now _ c.by_code-r.ensures.value k _ c.ran_to.ensures; out_after = c.by_code-r.ensures.out_after ∙ filled_wrote z.args.self.state z.args.self.group _ z.args.bytes.now z.args.out.now k })
