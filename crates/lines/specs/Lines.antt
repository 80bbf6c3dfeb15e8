-- Document 01, "The bench reader": the lines of an input, and the unfinished line, whose LF has not come yet. Assumes nothing.
use Rattle.std.specs.Prelude.{ℕ, ◌+◌, ◌-◌, min, Bool, List, [], ltb, length, take, drop, replicate}
use Rattle.std.proofs.lemmas.List.Edits.{sets}
use Rattle.laws.specs.Bit.{bit}
use Rattle.text.specs.Letters.{lf}
use Rattle.text.specs.Fields.{parted_at, bytes_before}
use Rattle.lines.specs.declared.Lines.{Lines}
use Rattle.lines.specs.declared.Taken.{Taken}

-- LF ends a line. A last line without LF counts, if it has a byte.
abbrev pub lines_of : List ℕ → List (List ℕ)
lines_of input = parted_at lf [] input

-- A line is held up to this many bytes, and the rest of it is dropped.
abbrev pub line_room : ℕ
line_room = 2048

-- ---- the unfinished line
-- an unfinished line: the first `len` bytes of `held`
abbrev pub held_by : List ℕ → ℕ → Lines
held_by held len = record { held = held; len = len }

-- Before the input no byte is held.
unfoldable pub new_lines : Lines
new_lines = held_by (replicate line_room 0) 0

-- the bytes of the unfinished line
abbrev pub waiting : Lines → List ℕ
waiting lines = take lines.len lines.held

-- More bytes are added to the unfinished line, as far as there is room.
unfoldable pub extended : Lines → List ℕ → Lines
extended lines bytes =
    held_by (sets lines.held lines.len (take (line_room - lines.len) bytes)) (lines.len + min (length bytes) (line_room - lines.len))

-- The line has ended, and no byte of the next one is held yet.
abbrev pub emptied : Lines → Lines
emptied lines = held_by lines.held 0

-- ---- a part of a chunk
-- the bytes of a chunk from a place on, up to the first LF or the end of the chunk
abbrev pub part_from : List ℕ → ℕ → List ℕ
part_from chunk from = take (bytes_before lf (drop from chunk)) (drop from chunk)

-- An LF follows these bytes.
abbrev pub ends_from : List ℕ → ℕ → Bool
ends_from chunk from = ltb (bytes_before lf (drop from chunk)) (length (drop from chunk))

-- If an LF follows these bytes, the line ends, and the next place is past the LF.
unfoldable pub taken : List ℕ → ℕ → Taken
taken chunk from =
    record { next = from + bytes_before lf (drop from chunk) + bit (ends_from chunk from); ended = ends_from chunk from }
