-- Document 01, "The wave": the encoder, with "Refusal numbers" 5 and 6. Assumes nothing.
use Rattle.std.specs.Prelude.{ℕ, ◌≤◌, Bool, true, List, ◌++◌, ◌≡◌, eqb, leb, length, drop, Result, Ok, Err}
use Rattle.std.specs.Result.{result_map_both}
use Rattle.laws.specs.Pick.{pick}
use Rattle.halfbits.specs.declared.HalfBitBuffer.{HalfBitBuffer}
use Rattle.halfbits.specs.declared.EncodeError.{EncodeError}
use Rattle.halfbits.specs.declared.EncodeError.TheVariants.{BadBitCount, ShortBuffer}
use Rattle.halfbits.specs.Frame.{Frame, bits_8, bits_16, bits_24, frame_bits}
use Rattle.halfbits.specs.HalfBits.{store_of, half_bits_of, buffer_of}

-- ---- what a caller asks for
-- A frame has 8, 16 or 24 bits.
unfoldable pub is_bit_count : ℕ → Bool
is_bit_count bits = pick (eqb bits 8) true (pick (eqb bits 16) true (eqb bits 24))

-- The frame of a bit count and three bytes. A frame of 8 or 16 bits ignores those that it doesn't need. (A bit count that is refused gets 24 bits,
-- but nothing uses that frame.)
unfoldable pub frame_of : ℕ → ℕ → ℕ → ℕ → Frame
frame_of bits first second third =
    pick (eqb bits 8) (bits_8 first) (pick (eqb bits 16) (bits_16 first second) (bits_24 first second third))

-- ---- what the encoder answers
-- the number of each refusal
abbrev pub encode_error_number : EncodeError → ℕ
encode_error_number BadBitCount = 5
encode_error_number ShortBuffer = 6

-- the refusal number of each answer; 0 is no refusal
unfoldable pub encode_answer_number : {A : Type 0} → Result A EncodeError → ℕ
encode_answer_number (Ok a) = 0
encode_answer_number (Err e) = encode_error_number e

-- The encoder refuses by 5 if no frame has the bit count, and else by 6 if the buffer has no room for the store. So the lower number wins.
unfoldable pub encode_number : Bool → Bool → ℕ
encode_number counts fits = pick counts (pick fits 0 6) 5

-- The encoder refuses in the same order. If it does not refuse, it answers with the length: 22, 38 or 54 half-bits.
unfoldable pub answer_of : ℕ → ℕ → Result ℕ EncodeError
answer_of bits room = pick (is_bit_count bits) (pick (leb 7 room) (Ok (half_bits_of bits)) (Err ShortBuffer)) (Err BadBitCount)

-- ---- what the encoder writes
-- The encoder writes the store to the first seven bytes of the lent buffer and leaves the others. A refusal leaves all of them.
unfoldable pub written_to : ℕ → Frame → List ℕ → List ℕ
written_to bits frame out =
    pick (is_bit_count bits) (pick (leb 7 (length out)) (store_of (frame_bits frame) ++ drop 7 out) out) out

-- The other form hands out a buffer of its own. That always has room, so this form never refuses by 6.
unfoldable pub encoded_of : ℕ → Frame → Result HalfBitBuffer EncodeError
encoded_of bits frame = pick (is_bit_count bits) (Ok (buffer_of (frame_bits frame))) (Err BadBitCount)

-- If the lent buffer has room, both forms give the same answer. If they don't refuse, one writes the bytes that the other hands out, and the answer
-- is the length of the buffer handed out.
abbrev pub FormsAgree : Type 0
FormsAgree =
    (bits first second third : ℕ) (out : List ℕ) → 7 ≤ length out
    → let frame = frame_of bits first second third in
    let encoded = encoded_of bits frame in
    let answer = answer_of bits (length out) in
    (answer ≡ result_map_both (λ buffer. buffer.length) (λ e. e) encoded)
    × (is_bit_count bits ≡ true → (buffer : HalfBitBuffer) × (encoded ≡ Ok buffer) × (written_to bits frame out ≡ buffer.«data» ++ drop 7 out) × (answer ≡ Ok buffer.length))
