-- Document 01, "The bench reader": the line for a capture is read back as that capture. Assumes nothing.
use Rattle.std.specs.Prelude.{ℕ, ◌≤◌, List, [], ◌∷◌, Ok, ◌≡◌, length}
use Rattle.text.specs.Letters.{word, tab}
use Rattle.text.specs.Fields.{joined_by}
use Rattle.text.specs.Decimals.{decimal_of}
use Rattle.text.specs.Hex.{hexes_of}
use Rattle.text.specs.ReadBack.{AllBytes}
use Rattle.bench_text.specs.Rules.{silence_max, count_max}
use Rattle.bench_text.specs.Line.{capture_with, book_line_of}

-- the line for a capture: C, silence, count, samples
abbrev pub line_for : ℕ → List ℕ → List ℕ
line_for silence samples = joined_by tab (word "C" ∷ decimal_of silence ∷ decimal_of (length samples) ∷ hexes_of samples ∷ [])

-- Any silence up to 255 and any samples, up to 64 bytes, are read back, so the book can hold every capture.
abbrev pub ReadBack : Type 0
ReadBack =
    (silence : ℕ) (samples : List ℕ) → silence ≤ silence_max → length samples ≤ count_max → AllBytes samples
    → book_line_of (line_for silence samples) ≡ Ok (capture_with silence (length samples) samples)
