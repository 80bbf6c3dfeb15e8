-- The hypotheses of the statements on steps can be met: a search that is done at its first step,
-- and the same one at its fifth. Assumes nothing.
use mathlib.Core.Path.{◌≡◌, refl}
use mathlib.Core.List.{[], ◌∷◌}
use lib.IntN.{pos, negsuc}
use lib.ListN.{replicate}
use Rattle.laws.specs.Packed.{packed}
use Rattle.laws.specs.Pick.{pick}
use Rattle.lengths.specs.declared.BitLengths.{BitLengths}
use Rattle.lengths.specs.Lengths.{holds, set_of, with_lengths, with_length}
use Rattle.weight.specs.Weight.{weight_of, folded, half_weight, bit_weight}
use Rattle.window.specs.declared.SampleWindow.{SampleWindow}
use Rattle.window.specs.Window.{window_of, tick_at, level_before, peek_at}
use Rattle.window.specs.Phase.{phase_of, bits_of, bits_from, weight_around, stride_around, stride_of, length_of, score_of, data_of, decode_of}
use Rattle.std.specs.Prelude.{Some}
use Rattle.search.specs.declared.SearchAnswer.{SearchAnswer}
use Rattle.search.specs.declared.PhaseSearch.TheVariants.{Done}
use Rattle.search.specs.Search.{accepted_of, first_of, ended_of, scanned_of, scan_phase, kept_better, better_of, higher_of, new_of, step_of}
use Rattle.search.specs.Steps.{after_steps}

abbrev lengths : BitLengths
lengths = set_of (8 ∷ 16 ∷ 24 ∷ [])

-- the capture of the wave of the eight bits 0x01
abbrev wave : SampleWindow
wave = window_of (0x0F ∷ 0xF0 ∷ 0xF0 ∷ 0xF0 ∷ 0xF0 ∷ 0xF0 ∷ 0xF0 ∷ 0xF0 ∷ 0x0F ∷ 0xFF ∷ 0xFF ∷ replicate 53 0) 11

abbrev early : SearchAnswer
early = record { found = Some (record { bit_len = 8; phase_ticks = pos 0; score = 218; «data» = 0x0100000000000000 }); steps = 1 }

pub done_at_once : (step_of (new_of lengths) wave).answer ≡ Done early
unfolding step_of first_of accepted_of phase_of bits_of bits_from weight_around stride_around stride_of length_of score_of data_of decode_of window_of tick_at level_before peek_at weight_of folded half_weight bit_weight holds set_of with_lengths with_length packed pick
done_at_once = refl

-- the same search stepped on: the first step's decode was not kept, so the fifth finds the frame at another phase
abbrev fifth : SearchAnswer
fifth = record { found = Some (record { bit_len = 8; phase_ticks = negsuc 0; score = 218; «data» = 0x0100000000000000 }); steps = 5 }

pub done_at_the_fifth : (step_of (after_steps (new_of lengths) (replicate 4 wave)) wave).answer ≡ Done fifth
unfolding step_of after_steps first_of ended_of scanned_of scan_phase kept_better better_of higher_of accepted_of phase_of bits_of bits_from weight_around stride_around stride_of length_of score_of data_of decode_of window_of tick_at level_before peek_at weight_of folded half_weight bit_weight holds set_of with_lengths with_length packed pick
done_at_the_fifth = refl
