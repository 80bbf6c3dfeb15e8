-- Document 01, "The bench reader": the public constants. Assumes nothing.
use Rattle.bench_answers.specs.declared.PublicConstants.{PublicConstants}
use Rattle.bench_answers.specs.Answer.{row_max, bad_max, end_max}

-- the most bytes of a row, of a BAD line and of an END line
abbrev pub public_constants : PublicConstants
public_constants = record { row_max = row_max; bad_max = bad_max; end_max = end_max }
