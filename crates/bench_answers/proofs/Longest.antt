-- The limits are reached. Assumes nothing.
use mathlib.Core.Path.{refl}
use Rattle.laws.specs.Pick.{pick}
use Rattle.text.specs.Fields.{joined_by}
use Rattle.text.specs.Decimals.{decimal_in}
use Rattle.text.specs.Signed.{signed_of}
use Rattle.text.specs.Hex.{hex_of, hexes_of}
use Rattle.bench_answers.specs.Answer.{kind_text, data_text, row_text, bad_text, end_text}
use Rattle.bench_answers.specs.Longest.{LimitsReached}

pub limits_reached : LimitsReached
unfolding row_text bad_text end_text kind_text data_text joined_by decimal_in signed_of hex_of hexes_of pick
limits_reached = (refl, refl, refl)
