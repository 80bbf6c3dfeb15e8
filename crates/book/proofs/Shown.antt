-- The printed case of document 01, and the report of no input: antt computes both from the definitions. Assumes nothing.
use mathlib.Core.List.{[]}
use mathlib.Core.Path.{◌≡◌, refl}
use Rattle.laws.specs.Packed.{packed}
use Rattle.laws.specs.Pick.{pick}
use Rattle.laws.specs.Tabulate.{tabulate}
use Rattle.lengths.specs.Lengths.{holds, set_of, with_lengths, with_length, sniffed_lengths}
use Rattle.weight.specs.Weight.{weight_of, folded, half_weight, bit_weight}
use Rattle.window.specs.Window.{window_of, tick_at, level_before, peek_at}
use Rattle.window.specs.Phase.{phase_of, bits_of, bits_from, weight_around, stride_around, stride_of, length_of, score_of, data_of, decode_of}
use Rattle.search.specs.Search.{accepted_of, first_of, ended_of, scanned_of, scan_phase, kept_better, better_of, higher_of, step_of, first_done, run_of}
use Rattle.event.specs.Event.{event_of}
use Rattle.rx_decode.specs.Reading.{byte_of, frame_of, sniffed_of, searched_in, found_or, ticks_of, lows_first, longest_low}
use Rattle.text.specs.Letters.{word}
use Rattle.text.specs.Fields.{grow, parted_at, joined_by}
use Rattle.text.specs.Decimals.{is_digit, all_digits, is_decimal, value_from, is_up_to, decimal_in}
use Rattle.text.specs.Signed.{signed_of}
use Rattle.text.specs.Hex.{digit_value, all_hex, is_hex, bytes_of, hex_digit, hex_of, hexes_of}
use Rattle.bench_text.specs.Rules.{is_short, has_fields, has_numbers, has_samples, judged_by}
use Rattle.bench_text.specs.Line.{capture_with, book_line_as}
use Rattle.bench_reading.specs.Reading.{event_for, reading_of, is_frame}
use Rattle.bench_answers.specs.Answer.{kind_text, data_text, row_text, bad_text, end_text}
use Rattle.book.specs.Report.{answer_as, is_decoded_as, is_refused_as, count_of, answers_from, report_of, report}

pub printed_case : report (word "C\t16\t11\t0ff0f0f0f0f0f0f00fffff\nC\t255\t3\t000000\nC\t0\t0\t\nC\t0\t1\t0F\n")
    ≡ word "1\tB8\t01\t0\t218\t8\t1664\n2\tFAIL\t-\t0\t0\t24\t26520\n3\tFAIL\t-\t0\t0\t0\t0\n4\tBAD\t4\nEND\t4\t1\t1\n"
unfolding packed pick tabulate holds set_of with_lengths with_length sniffed_lengths weight_of folded half_weight bit_weight window_of tick_at level_before peek_at phase_of bits_of bits_from weight_around stride_around stride_of length_of score_of data_of decode_of accepted_of first_of ended_of scanned_of scan_phase kept_better better_of higher_of step_of first_done run_of event_of byte_of frame_of sniffed_of searched_in found_or ticks_of lows_first longest_low grow parted_at joined_by is_digit all_digits is_decimal value_from is_up_to decimal_in signed_of digit_value all_hex is_hex bytes_of hex_digit hex_of hexes_of is_short has_fields has_numbers has_samples judged_by capture_with book_line_as event_for reading_of is_frame kind_text data_text row_text bad_text end_text answer_as is_decoded_as is_refused_as count_of answers_from report_of report
printed_case = refl

pub no_input : report [] ≡ word "END\t0\t0\t0\n"
unfolding parted_at joined_by decimal_in end_text count_of answers_from report_of report pick
no_input = refl
