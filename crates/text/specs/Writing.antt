-- Document 01, "The bench reader": a text that is written into a lent buffer. Assumes nothing.
use Rattle.std.specs.Prelude.{ℕ, ◌+◌, Bool, List, leb, length}
use Rattle.std.proofs.lemmas.List.Edits.{sets}
use Rattle.laws.specs.Pick.{pick}

-- The buffer has room for that many bytes at the place.
abbrev pub room_at : ℕ → ℕ → List ℕ → Bool
room_at bytes place buffer = leb (place + bytes) (length buffer)

-- If the buffer has that much room at the place, the text is written there, and the answer is the place past it. If not, nothing is written, and the
-- answer is the place itself.
unfoldable pub place_after : ℕ → List ℕ → ℕ → List ℕ → ℕ
place_after room text place buffer = pick (room_at room place buffer) (place + length text) place

unfoldable pub buffer_after : ℕ → List ℕ → ℕ → List ℕ → List ℕ
buffer_after room text place buffer = pick (room_at room place buffer) (sets buffer place text) buffer

-- The same for a text that asks for no more room than its own.
abbrev pub place_past : List ℕ → ℕ → List ℕ → ℕ
place_past text place buffer = place_after (length text) text place buffer

abbrev pub buffer_with : List ℕ → ℕ → List ℕ → List ℕ
buffer_with text place buffer = buffer_after (length text) text place buffer
