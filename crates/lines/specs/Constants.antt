-- Document 01, "The bench reader": the public constant. Assumes nothing.
use Rattle.lines.specs.declared.PublicConstants.{PublicConstants}
use Rattle.lines.specs.Lines.{line_room}

-- the room for a line
abbrev pub public_constants : PublicConstants
public_constants = record { line_room = line_room }
