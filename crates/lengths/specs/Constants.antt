-- Document 01, "The wave": the public constant that is a number. Lengths has the two that are sets. Assumes nothing.
use Rattle.lengths.specs.declared.PublicConstants.{PublicConstants}

abbrev pub public_constants : PublicConstants
public_constants = record {
  -- the length of the longest frame
  forward24_bits = 24;
}
