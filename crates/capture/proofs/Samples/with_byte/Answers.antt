-- `Samples::with_byte` meets its contract. Assumes nothing.
use native.Mathlib.Omega.{arith}
use Rattle.capture.proofs.Written.{written}
use Rattle.capture.proofs.Samples.with_byte.Goals as goal

pub returns : goal.returns
returns c =
    rw (
      c.word_with.ensures,
      c.word_with-2.ensures,
      c.word_with-3.ensures,
      c.word_with-4.ensures,
      c.word_with-5.ensures,
      c.word_with-6.ensures,
      c.word_with-7.ensures,
      c.word_with-8.ensures,
    )
    (written c.args.self c.args.at c.args.byte (omega (arith, c.well_formed.0)) (omega arith))
