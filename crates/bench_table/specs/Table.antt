-- Document 01, "Bench table": its rows, in its order, and the statement that all of them hold. Assumes nothing.
use Rattle.std.specs.Prelude.{Bool, true, false, List, [], ◌∷◌, ◌++◌, replicate}
use Rattle.halfbits.specs.Frame.{Frame, bits_8, frame_bits}
use Rattle.halfbits.specs.Wave.{high, low, wave_of}
use Rattle.frames.specs.Sends.{by_start_tx}
use Rattle.line_theorems.specs.OnLine.{Sender}
use Rattle.bench_table.specs.Row.{Row, weighs, lengths_hold, lengths_hold_nothing, encodes, captures, scores, captures_nothing, reads_at_phase_0, finds_nothing, runs_low, clashes, SaysRow}

-- the levels of a frame's wave
abbrev pub wave : Frame → List Bool
wave frame = wave_of (frame_bits frame)

-- the senders of the clash: station 0 with 16 bits of 0000, and station 1 with 16 bits of 8000
abbrev pub zeros : Sender
zeros = record { number = 0; by = by_start_tx; bits = 16; first = 0x00; second = 0x00; third = 0 }

abbrev pub eighty : Sender
eighty = record { number = 1; by = by_start_tx; bits = 16; first = 0x80; second = 0x00; third = 0 }

-- The rows of the table. Document 01 asks only that the last three are run, which the program does. They are proved as well.
unfoldable pub rows : List Row
rows =
    weighs 0x0F 25
    ∷ weighs 0xF0 24
    ∷ weighs 0x1E 17
    ∷ weighs 0x1F 21
    ∷ weighs 0x3C 0
    ∷ weighs 0x00 0
    ∷ weighs 0xFF 0
    ∷ lengths_hold (31 ∷ []) 31
    ∷ lengths_hold_nothing (32 ∷ [])
    ∷ encodes 0x01 (0x95 ∷ 0x55 ∷ 0x80 ∷ 0x00 ∷ 0x00 ∷ 0x00 ∷ 0x00 ∷ []) 22
    ∷ captures (wave (bits_8 0x01)) 11 (0x0F ∷ (replicate 7 0xF0 ++ (0x0F ∷ 0xFF ∷ 0xFF ∷ [])))
    ∷ captures (wave (bits_8 0x80)) 12 (0x0F ∷ 0x0F ∷ (replicate 7 0xF0 ++ replicate 3 0xFF))
    ∷ scores (wave (bits_8 0x01)) 218
    ∷ scores (wave (bits_8 0x80)) 218
    ∷ captures (replicate 2 low) 3 (0x3F ∷ 0xFF ∷ 0xFF ∷ [])
    ∷ captures_nothing (replicate 1 low)
    ∷ reads_at_phase_0 (0x0F ∷ 0xFF ∷ 0xFF ∷ []) 1 25
    ∷ finds_nothing [] (8 ∷ 16 ∷ 24 ∷ []) 5
    ∷ runs_low (0x00 ∷ 0x00 ∷ 0x00 ∷ []) 24 true
    ∷ runs_low (0x00 ∷ 0x00 ∷ 0x01 ∷ []) 23 false
    ∷ captures (replicate 600 low) 64 (replicate 63 0x00 ++ (0xFF ∷ []))
    ∷ clashes zeros eighty 0 14 28 low
    ∷ clashes zeros eighty 1 18 32 high
    ∷ []

-- Every row of the list holds.
unfoldable pub AllSay : List Row → Type 0
AllSay [] = Unit {0}
AllSay (row ∷ more) = SaysRow row × AllSay more

-- Every row of the bench table holds.
abbrev pub BenchTable : Type 0
BenchTable = AllSay rows
