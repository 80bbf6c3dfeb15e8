-- What the private functions promise. No public promise cites this file. Assumes nothing.
use Rattle.std.specs.Prelude.{ℕ, zero, suc, ◌-◌, ◌/◌, ◌%◌, List, [], ◌∷◌, ◌++◌, Option, Some, None, ◌≡◌, ltb}
use Rattle.laws.specs.Pick.{pick}
use Rattle.text.specs.Letters.{letter, minus}
use Rattle.text.specs.Decimals.{is_digit, digit_of, decimal_of}
use Rattle.text.specs.Hex.{digit_value}
use Rattle.text.specs.Writing.{place_past, buffer_with}

-- A text was written into the buffer `before` if it fits, which left `after`. `next` is then the place past the text, and else the place itself.
pub record Put (text : List ℕ) (place : ℕ) (before after : List ℕ) (next : ℕ) : Type 0 where
  pub past : next ≡ place_past text place before
  pub left : after ≡ buffer_with text place before

-- the value of a decimal digit, and of a hex digit, if the byte is one
unfoldable pub digit_in : ℕ → Option ℕ
digit_in byte = pick (is_digit byte) (Some (byte - letter "0")) None

unfoldable pub hex_digit_in : ℕ → Option ℕ
hex_digit_in byte = pick (ltb (digit_value byte) 16) (Some (digit_value byte)) None

-- the last `count` decimal digits of a number
unfoldable pub digits : ℕ → ℕ → List ℕ
digits zero n = []
digits (suc count) n = digits count (n / 10) ++ (digit_of (n % 10) ∷ [])

-- a minus and then a number
abbrev pub minus_and : ℕ → List ℕ
minus_and n = minus ∷ decimal_of n
