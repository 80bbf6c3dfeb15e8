-- Document 01, "The bench reader": the public constants. Assumes nothing.
use Rattle.book.specs.declared.PublicConstants.{PublicConstants}
use Rattle.book.specs.Report.{lines_max}
use Rattle.book.specs.Reader.{finish_max}

-- the most lines that are read, and the room that the end of the input asks for
abbrev pub public_constants : PublicConstants
public_constants = record { max_lines = lines_max; finish_max = finish_max }
