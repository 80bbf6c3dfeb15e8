-- One number for a decode or a reading, which the clock compares with the Rust's. Assumes nothing.
use Rattle.std.specs.Prelude.{ℕ, ◌+◌, ◌*◌, ◌/◌, Option, Some, None}
use Rattle.window.specs.declared.PhaseDecode.{PhaseDecode}
use Rattle.search.specs.declared.SearchAnswer.{SearchAnswer}
use Rattle.rx_decode.specs.declared.SniffedFrame.{SniffedFrame}
use Rattle.rx_decode.specs.declared.SniffedFrame.TheVariants.{Forward16, Backward8, Forward24, UnsupportedLength, DecodeFailed}
use Rattle.rx_decode.specs.declared.SniffedDecode.{SniffedDecode}

-- the first four data bytes on top, then the length, then the score
unfoldable pub digest_of : PhaseDecode → ℕ
digest_of d = d.«data» / 4294967296 * 4294967296 + (d.bit_len * 65536 + d.score)

-- the number of a decode, or 0 if there is none
unfoldable pub found_of : Option PhaseDecode → ℕ
found_of (Some d) = digest_of d
found_of None = 0

-- the number of the decode that a search found
abbrev pub answer_of : SearchAnswer → ℕ
answer_of a = found_of a.found

-- the frame kind on top, then its bytes or its length; 0 for DecodeFailed
unfoldable pub frame_digest : SniffedFrame → ℕ
frame_digest (Forward16 word) = 0x10000000 + word
frame_digest (Backward8 byte) = 0x08000000 + byte
frame_digest (Forward24 first second third) = 0x18000000 + first * 65536 + second * 256 + third
frame_digest (UnsupportedLength length) = 0x20000000 + length
frame_digest DecodeFailed = 0

-- the number of the frame on top, then the score
unfoldable pub sniffed_digest : SniffedDecode → ℕ
sniffed_digest d = frame_digest d.frame * 65536 + d.score
