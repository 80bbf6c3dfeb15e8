-- Document 01, "Search": the public constants. Their values are source document 001's (manchester.rs). Assumes nothing.
use Rattle.search.specs.declared.PublicConstants.{PublicConstants}

abbrev pub public_constants : PublicConstants
public_constants = record {
  -- a search reads each phase with this maximum
  manchester_rx_max_decoded_bits = 32;
  -- a decode of fewer bits is none
  manchester_rx_min_decoded_bits = 3;
  -- the scan takes four steps
  phase_scan_count = 4;
}
