-- Document 01, "Window" and "One phase": the public constants that are numbers. Window's `empty_window` is the constant `EMPTY`. Assumes nothing.
use Rattle.window.specs.declared.PublicConstants.{PublicConstants}

abbrev pub public_constants : PublicConstants
public_constants = record {
  -- a capture has room for 64 samples
  dali_rx_sample_buf_len = 64;
  -- a decode has eight data bytes
  decoded_bytes = 8;
}
