-- Document 01, "Window": the public constant of the station. Assumes nothing.
use Rattle.fsm.specs.declared.PublicConstants.{PublicConstants}

-- A station has room for 64 samples of a capture.
abbrev pub public_constants : PublicConstants
public_constants = record { rx_buf_size = 64 }
