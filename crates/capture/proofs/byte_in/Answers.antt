-- `byte_in` meets its contract. Assumes nothing.
use mathlib.Core.Path.{sym}
use native.Mathlib.Omega.{arith}
use Rattle.window.proofs.Bytes.{bytes_of_bits}
use Rattle.capture.specs.Samples.{byte_in}
use Rattle.capture.proofs.Kept.{no_byte}
use Rattle.capture.proofs.byte_in.Goals as goal

pub returns-then-which-ge-WORDS : goal.returns-then-which-ge-WORDS
returns-then-which-ge-WORDS c = sym (no_byte _ _ (omega arith))

pub returns : goal.returns
unfolding byte_in
returns c = rw bytes_of_bits
