-- What the private functions promise. No public promise cites this file. Assumes nothing.
use Rattle.std.specs.Prelude.{ℕ, ◌+◌, ◌≤◌, List, [], ◌∷◌, ◌++◌, ◌≡◌, length}
use Rattle.std.proofs.lemmas.List.Edits.{sets}
use Rattle.text.specs.Letters.{tab}
use Rattle.text.specs.Decimals.{decimal_of}
use Rattle.rx_decode.specs.declared.SniffedFrame.{SniffedFrame}
use Rattle.bench_answers.specs.Answer.{kind_text, data_text}

-- If a text has room at a place of the buffer `before`, it was written there and nothing else changed, which left `after`. `next` is then the place
-- past the text.
pub record Wrote (text : List ℕ) (place : ℕ) (before after : List ℕ) (next : ℕ) : Type 0 where
  pub whole : place + length text ≤ length before → (next ≡ place + length text) × (after ≡ sets before place text)

-- a number and the mark behind it
unfoldable pub field_text : ℕ → ℕ → List ℕ
field_text number mark = decimal_of number ++ (mark ∷ [])

-- kind and data, with a tab between them
unfoldable pub frame_text : SniffedFrame → List ℕ
frame_text frame = kind_text frame ++ (tab ∷ data_text frame)
