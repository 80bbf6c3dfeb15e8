-- Document 01, "What is taken from the repository": the public constants. Assumes nothing.
use Rattle.halfbits.specs.declared.PublicConstants.{PublicConstants}

-- The store has seven bytes. The longest frame has a start bit and 24 data bits of two half-bits each, and then four released half-bits.
abbrev pub public_constants : PublicConstants
public_constants = record { data_len = 7; max_data_half_bits = 54 }
