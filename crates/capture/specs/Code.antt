-- What a private function promises. No public promise cites this file. Assumes nothing.
use Rattle.std.specs.Prelude.{ℕ, ◌-◌, Bool}
use Rattle.std.specs.Int.Bits.{bit_and, bit_or}
use Rattle.laws.specs.Pick.{pick}

-- If the word is hit, the bits `put` replace what the mask covers.
unfoldable pub word_with : ℕ → Bool → ℕ → ℕ → ℕ
word_with word hit mask put = pick hit (bit_or (word - bit_and word mask) put) word
