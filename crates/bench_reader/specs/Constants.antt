-- Document 01, "The bench reader": the limits of the program. Assumes nothing.
use Rattle.std.specs.Prelude.{ℕ, ◌*◌}
use Rattle.bench_answers.specs.Answer.{row_max}
use Rattle.bench_reader.specs.declared.Limits.{Limits}

-- the most bytes that one read can bring
abbrev pub chunk_max : ℕ
chunk_max = 16384

-- room for all that the reader can say of one chunk
abbrev pub answers_room : ℕ
answers_room = chunk_max * row_max

-- both limits
abbrev pub limits : Limits
limits = record { chunk_max = chunk_max; answers_room = answers_room }
