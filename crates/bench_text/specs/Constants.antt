-- Document 01, "Refusal numbers": the public constant. Assumes nothing.
use Rattle.bench_text.specs.declared.PublicConstants.{PublicConstants}
use Rattle.bench_text.specs.Rules.{line_max}

-- the most bytes that a line may have
abbrev pub public_constants : PublicConstants
public_constants = record { line_max = line_max }
