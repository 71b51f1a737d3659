-- The one theorem of the starred figures: each follows from its definition by computing it.
-- Assumes nothing.
use Rattle.std.specs.Prelude.{Ok}
use mathlib.Core.Path.{refl}
use Rattle.basis.specs.Choice.{pick, ◌and◌}
use Rattle.basis.specs.Fields.{field}
use Rattle.codes.specs.Codes.{table, find_in, row_of, per_in, per_of, bits_of}
use Rattle.values.specs.Values.{times, brought, less_test, same_test}
use Rattle.values.proofs.Laws.{same_told}
use Rattle.words.specs.Words.{signed_fraction, power_of, last_bit, negative_zero, all_ones, not_true_zero, not_justified, off_rule, sample_in, word_in, word_of}
use Rattle.basis.specs.Upto.{upto}
use Rattle.basis.specs.Digits.{written}
use Rattle.block.specs.Bytes.{is_pair, pair_of, packed_of, byte, upper, lower, pair, decimal, three_digits, binary, pairs}
use Rattle.general.specs.General.{general_digits, within, time_in_range, is_interval, scan_in_range, counts_in_range, header_length, general_fault}
use Rattle.sets.specs.Descriptors.{descriptor_place, descriptor_at, descriptor_holds, four_holds, set_fault, scan_type_fault, descriptors_fault}
use Rattle.sets.specs.Samples.{set_samples, samples_of}
use Rattle.sets.specs.ChannelSets.{quarters}
use Rattle.header.specs.Faults.{size_holds, size_fault, sizes_fault, skew_holds, header_fault}
use Rattle.layout.specs.Indexes.{spot, passed, set_at, set_of, has_sample, spot_of, place_fault, place_answer}
use Rattle.skew.specs.Times.{time_by}
use Rattle.demands.specs.Figures.{Says, header, place, refused, starred, All, figures}

-- the starred header breaks no rule
accepted : Says (header starred 148 378 5 288)
unfolding pick upto written table find_in row_of per_in per_of bits_of is_pair pair_of byte upper lower pair decimal three_digits binary pairs general_digits within time_in_range is_interval scan_in_range counts_in_range header_length general_fault descriptor_place descriptor_at descriptor_holds four_holds set_fault scan_type_fault descriptors_fault set_samples samples_of size_holds size_fault sizes_fault skew_holds header_fault
accepted = (refl, refl, refl, refl, refl)

-- and so its samples have their places
placed : Says (place starred 112 (Ok (spot 3 1 1)))
unfolding pick upto written is_pair pair_of byte upper lower pair decimal three_digits binary pairs within descriptor_place descriptor_at set_samples samples_of ◌and◌ passed set_at set_of has_sample spot_of place_fault place_answer
placed = rw accepted.0

past : Says (refused starred 148 11)
unfolding pick upto written is_pair pair_of byte upper lower pair decimal three_digits binary pairs within descriptor_place descriptor_at set_samples samples_of ◌and◌ has_sample place_fault place_answer
past = rw accepted.0

pub all_figures : All figures
unfolding figures times brought less_test same_test pick field table find_in row_of signed_fraction power_of last_bit negative_zero all_ones not_true_zero not_justified off_rule sample_in word_in word_of is_pair pair_of packed_of quarters time_by
all_figures = (refl, (refl, (refl, (refl, (refl, (refl, (refl, (refl, (refl, (refl, (refl, (refl, (refl, (same_told tt, (refl, (refl, (refl, (refl, (refl, (accepted, (placed, (past, tt))))))))))))))))))))))
