-- Writing a line (document 01, "Trace lines"): refusals 1, 2, 24, 23 in this order, or the line.
use Rattle.std.specs.Prelude.{ℕ, ◌+◌, ◌*◌, ◌^◌, List, length, Result, Ok, Err}
use Rattle.choice.specs.Choice.{when◌then◌else◌, ◌<ᵇ◌, ◌≤ᵇ◌, ◌=ᵇ◌}
use Rattle.octets.specs.Overwrite.{overwrite}
use Rattle.trace.specs.Line.{line_of}
use Rattle.trace.specs.declared.WriteLineError.{WriteLineError}
use Rattle.trace.specs.declared.WriteLineError.TheVariants.{UnknownSide, ClockTooLarge, PacketLength, NoRoom}
use Rattle.trace.specs.declared.WriteAnswer.{WriteAnswer}

-- what writing a packet of n bytes gives, with room for so many characters: how many are written
unfoldable pub write_line : ℕ → ℕ → ℕ → ℕ → Result ℕ WriteLineError
write_line side clock n room =
    when 1 <ᵇ side then Err UnknownSide
    else when 2 ^ 48 ≤ᵇ clock then Err ClockTooLarge
    else when n =ᵇ 0 then Err PacketLength
    else when 2048 <ᵇ n then Err PacketLength
    else when room <ᵇ 15 + 2 * n then Err NoRoom
    else Ok (15 + 2 * n)

-- what the output holds after that answer: the line and, past it, what it held before; on a refusal all as it was
unfoldable pub line_after : Result ℕ WriteLineError → ℕ → ℕ → List ℕ → List ℕ → List ℕ
line_after (Err e) side clock packet out = out
line_after (Ok n) side clock packet out = overwrite out 0 (line_of side clock packet)

-- what `line` holds after side, clock and packet were written to it
abbrev pub line_after_writing : ℕ → ℕ → List ℕ → List ℕ → List ℕ
line_after_writing side clock packet line = line_after (write_line side clock (length packet) (length line)) side clock packet line

-- Document 01's numbers

-- its number and length for each case
unfoldable pub write_answer : Result ℕ WriteLineError → WriteAnswer
write_answer (Err UnknownSide) = record { number = 1; length = 0 }
write_answer (Err ClockTooLarge) = record { number = 2; length = 0 }
write_answer (Err PacketLength) = record { number = 24; length = 0 }
write_answer (Err NoRoom) = record { number = 23; length = 0 }
write_answer (Ok n) = record { number = 0; length = n }

-- the answer to writing side, clock and packet to `line`: number and length
abbrev pub writing : ℕ → ℕ → List ℕ → List ℕ → WriteAnswer
writing side clock packet line = write_answer (write_line side clock (length packet) (length line))
