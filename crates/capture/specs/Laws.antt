-- Document 01, "Machine", Rx, as statements: the words of a capture keep its 64 bytes, and nothing else. Assumes nothing.
use Rattle.std.specs.Prelude.{ℕ, ◌^◌, ◌<◌, List, ◌≡◌, length, get_or, set}
use Rattle.capture.specs.declared.Samples.{Samples}
use Rattle.capture.specs.Samples.{words_of, bytes_of, samples_of, with_byte}

-- A capture has 64 bytes, whatever its words are.
abbrev pub Whole : Type 0
Whole = (s : Samples) → length (bytes_of s) ≡ 64

-- every number in the list is below 256
abbrev pub AreBytes : List ℕ → Type 0
AreBytes bytes = (i : ℕ) → get_or bytes i 0 < 256

-- Each of the 64 is a byte.
abbrev pub Small : Type 0
Small = (s : Samples) → AreBytes (bytes_of s)

-- The words keep any 64 bytes as they are.
abbrev pub KeepsAll : Type 0
KeepsAll = (bytes : List ℕ) → length bytes ≡ 64 → AreBytes bytes → bytes_of (samples_of bytes) ≡ bytes

-- A write sets byte i and touches no other.
abbrev pub WritesOne : Type 0
WritesOne = (s : Samples) (i byte : ℕ) → byte < 256 → bytes_of (with_byte s i byte) ≡ set (bytes_of s) i byte

-- The bytes determine the words: a word of 64 bits holds eight bytes and nothing else.
abbrev pub OneValue : Type 0
OneValue = (s : Samples) → ((j : ℕ) → get_or (words_of s) j 0 < 2 ^ 64) → samples_of (bytes_of s) ≡ s
