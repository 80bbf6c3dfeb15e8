-- Document 01, "The bench reader": a longest row, BAD line and END line, which show that no limit is larger than it must be. Assumes nothing.
use Rattle.std.specs.Prelude.{ℕ, ◌-◌, ◌^◌, [], ◌≡◌, negsuc, length}
use Rattle.rx_decode.specs.declared.SniffedFrame.TheVariants.{Forward24}
use Rattle.bench_text.specs.declared.Capture.{Capture}
use Rattle.bench_text.specs.declared.Refusal.TheVariants.{TooLong}
use Rattle.bench_reading.specs.declared.Reading.{Reading}
use Rattle.bench_answers.specs.declared.Counts.{Counts}
use Rattle.bench_answers.specs.Answer.{row_text, bad_text, end_text, row_max, bad_max, end_max}

-- the largest numbers of 32 and of 16 bits
abbrev pub most32 : ℕ
most32 = 2 ^ 32 - 1

abbrev pub most16 : ℕ
most16 = 2 ^ 16 - 1

-- A frame of 24 bits has the longest kind and data, and -128 is the longest phase.
abbrev pub long_reading : Reading
long_reading =
    record {
      decode = record { frame = Forward24 0 0 0; phase_ticks = negsuc 127; score = most16 };
      low_run = most16;
      steps = 0;
    }

-- The longest silence is 255 ticks.
abbrev pub long_capture : Capture
long_capture = record { silence = 255; count = 0; samples = [] }

-- the largest counts that an END line can tell
abbrev pub long_counts : Counts
long_counts = record { lines = most32; decoded = most32; refused = most32 }

-- Each limit is the length of such a line.
abbrev pub LimitsReached : Type 0
LimitsReached =
    (length (row_text most32 long_capture long_reading) ≡ row_max)
    × (length (bad_text most32 TooLong) ≡ bad_max)
    × (length (end_text long_counts) ≡ end_max)
