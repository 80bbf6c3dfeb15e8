-- Document 01, "Bench line": the public constant. Assumes nothing.
use Rattle.bench_line.specs.declared.PublicConstants.{PublicConstants}

-- A line has at most four stations.
abbrev pub public_constants : PublicConstants
public_constants = record { max_stations = 4 }
