-- Document 01, "Reading": the readings of an event. Assumes nothing.
use Rattle.std.specs.Prelude.{ℕ, suc, ◌+◌, ◌-◌, ◌*◌, ◌/◌, ◌%◌, ◌^◌, max, min, Bool, List, [], ◌∷◌, eqb, leb, pos, Option, Some, None}
use Rattle.laws.specs.Pick.{pick}
use Rattle.laws.specs.Tabulate.{tabulate}
use Rattle.lengths.specs.declared.BitLengths.{BitLengths}
use Rattle.lengths.specs.Lengths.{sniffed_lengths}
use Rattle.window.specs.Window.{window_of, level_of}
use Rattle.window.specs.declared.PhaseDecode.{PhaseDecode}
use Rattle.search.specs.Search.{new_of, run_of}
use Rattle.event.specs.declared.IsrDecode.{IsrDecode}
use Rattle.event.specs.declared.IsrDecode.TheVariants.{NotDecoded, Decoded}
use Rattle.event.specs.declared.RxCompletedEvent.{RxCompletedEvent}
use Rattle.rx_decode.specs.declared.SniffedFrame.{SniffedFrame}
use Rattle.rx_decode.specs.declared.SniffedFrame.TheVariants.{Forward16, Backward8, Forward24, UnsupportedLength, DecodeFailed}
use Rattle.rx_decode.specs.declared.SniffedDecode.{SniffedDecode}

-- ---- the kind of a decode
-- byte i of a decode's data, which is one number with the first byte on top
unfoldable pub byte_of : ℕ → ℕ → ℕ
byte_of bytes i = bytes / 256 ^ (7 - i) % 256

-- A decode of 8, 16 or 24 bits is a frame and carries its bytes. Of any other length the kind carries the length and nothing else.
unfoldable pub frame_of : ℕ → ℕ → SniffedFrame
frame_of len bytes =
    pick (eqb len 8) (Backward8 (byte_of bytes 0))
    (pick (eqb len 16) (Forward16 (byte_of bytes 0 * 256 + byte_of bytes 1))
    (pick (eqb len 24) (Forward24 (byte_of bytes 0) (byte_of bytes 1) (byte_of bytes 2))
    (UnsupportedLength len)))

-- The result holds the frame kind beside phase and score. If there is no decode, the kind is DecodeFailed, and both numbers are 0.
unfoldable pub sniffed_of : Option PhaseDecode → SniffedDecode
sniffed_of None = record { frame = DecodeFailed; phase_ticks = pos 0; score = 0 }
sniffed_of (Some d) = record { frame = frame_of d.bit_len d.«data»; phase_ticks = d.phase_ticks; score = d.score }

-- ---- where the decode comes from
-- what a new search finds in the event's capture
unfoldable pub searched_in : BitLengths → RxCompletedEvent → Option PhaseDecode
searched_in preferred ev = (run_of (new_of preferred) (window_of ev.samples ev.sample_count)).found

-- If the event holds a finished search, the reading takes what that found, even if it found nothing. If not, it searches with 8, 16 and 24 preferred.
unfoldable pub found_or : IsrDecode → RxCompletedEvent → Option PhaseDecode
found_or (Decoded found) ev = found
found_or NotDecoded ev = searched_in sniffed_lengths ev

-- the decode that the sniffed reading takes, if there is one
abbrev pub found_in : RxCompletedEvent → Option PhaseDecode
found_in ev = found_or ev.isr_decode ev

-- ---- the backward byte
-- A decode of 8 bits gives its byte. Any other length gives none.
unfoldable pub byte_in : Option PhaseDecode → Option ℕ
byte_in None = None
byte_in (Some d) = pick (eqb d.bit_len 8) (Some (byte_of d.«data» 0)) None

-- ---- the longest low run
-- the levels of a capture's ticks, over as many bytes as it counts, 64 at most
unfoldable pub ticks_of : RxCompletedEvent → List ℕ
ticks_of ev = tabulate (min ev.sample_count 64 * 8) (level_of ev.samples)

-- how many low ticks come before the first high one
unfoldable pub lows_first : List ℕ → ℕ
lows_first [] = 0
lows_first (level ∷ levels) = pick (eqb level 0) (suc (lows_first levels)) 0

-- A low run may begin at any tick. This is the longest.
unfoldable pub longest_low : List ℕ → ℕ
longest_low [] = 0
longest_low (level ∷ levels) = max (lows_first (level ∷ levels)) (longest_low levels)

-- the longest low run of an event's capture
abbrev pub low_run_of : RxCompletedEvent → ℕ
low_run_of ev = longest_low (ticks_of ev)

-- A line that is low for 24 ticks running, or more, is held.
abbrev pub held_of : RxCompletedEvent → Bool
held_of ev = leb 24 (low_run_of ev)
