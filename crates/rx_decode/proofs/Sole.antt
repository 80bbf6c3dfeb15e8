-- Any two results that meet a public promise of this crate are equal. `Post` is the promise itself, as the check reads it from the source.
-- Assumes nothing.
use Rattle.laws.proofs.Only.{Only, named, named_and}
use Rattle.rx_decode.proofs.decode_backward_byte.Reads as decode_backward_byte
use Rattle.rx_decode.proofs.decode_sniffed.Reads as decode_sniffed
use Rattle.rx_decode.proofs.decode_sniffed_with_phase.Reads as decode_sniffed_with_phase
use Rattle.rx_decode.proofs.longest_dominant_run_ticks.Reads as longest_dominant_run_ticks
use Rattle.rx_decode.proofs.is_line_held.Reads as is_line_held

pub decode_backward_byte_sole : (κs : _) (a : _) (x : _) → Only (λ r. decode_backward_byte.Post κs a r x)
decode_backward_byte_sole κs a x = named_and _ _

pub decode_sniffed_sole : (κs : _) (a : _) (x : _) → Only (λ r. decode_sniffed.Post κs a r x)
decode_sniffed_sole κs a x = named_and _ _

pub decode_sniffed_with_phase_sole : (κs : _) (a : _) (x : _) → Only (λ r. decode_sniffed_with_phase.Post κs a r x)
decode_sniffed_with_phase_sole κs a x = named_and _ _

pub longest_dominant_run_ticks_sole : (κs : _) (a : _) (x : _) → Only (λ r. longest_dominant_run_ticks.Post κs a r x)
longest_dominant_run_ticks_sole κs a x = named _

pub is_line_held_sole : (κs : _) (a : _) (x : _) → Only (λ r. is_line_held.Post κs a r x)
is_line_held_sole κs a x = named _
