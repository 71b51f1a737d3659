-- `words::by_row` meets its contract.
-- Assumes nothing.
use lib.Pow.{pow_pos}
use Rattle.codes.proofs.Rows.{fit}
use Rattle.words.specs.Words.{sample_in}
use Rattle.words.proofs.Parts.{value_of_lem}
use Rattle.words.proofs.by_row.Goals as goal

pub sample-requires : goal.sample-requires
sample-requires c = record { sound = fit _ _ c.requires.0; c_bits = pow_pos _; word_bits = c.requires.1 }

pub returns : goal.returns
unfolding sample_in
returns c =
    let p = c.requires in
    value_of_lem _ _ p.0 0 _ (pow_pos _) p.1 c.sample.ensures
