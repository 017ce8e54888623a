-- Reading a line (document 01, "Trace lines"): refusals 21, 22, 23 in this order, or the frame.
use Rattle.std.specs.Prelude.{ℕ, zero, suc, ◌+◌, ◌%◌, ◌≤◌, ◌<◌, ◌≡◌, Bool, true, ◌&&◌, not, List, length, get_or, Result, Ok, Err}
use Rattle.choice.specs.Choice.{when◌then◌else◌, ◌<ᵇ◌, ◌≤ᵇ◌, ◌=ᵇ◌}
use Rattle.octets.specs.Overwrite.{overwrite}
use Rattle.trace.specs.Hex.{is_hex}
use Rattle.trace.specs.Line.{may_stand, line_side, line_clock, packet_length, line_packet}
use Rattle.trace.specs.declared.Frame.{Frame}
use Rattle.trace.specs.declared.ReadLineError.{ReadLineError}
use Rattle.trace.specs.declared.ReadLineError.TheVariants.{TooLong, Malformed, NoRoom}
use Rattle.trace.specs.declared.ReadAnswer.{ReadAnswer}

-- the first position from i on, of the k left, whose byte may not stand there; i + k where there is none
unfoldable pub illegal_from : List ℕ → ℕ → ℕ → ℕ
illegal_from l i zero = i
illegal_from l i (suc k) = when may_stand i (get_or l i 0) then illegal_from l (i + 1) k else i

-- the offset of the first byte that no legal line has there after the bytes before it; the length where there is none
unfoldable pub first_illegal : List ℕ → ℕ
first_illegal l = illegal_from l 0 (length l)

-- the bytes from position i on, up to an end, are hex digits
abbrev pub HexFrom : List ℕ → ℕ → ℕ → Type 0
HexFrom l i end = (k : ℕ) → i ≤ k → k < end → is_hex (get_or l k 0) ≡ true

-- every byte may stand where it stands, and the line stops neither before its first packet byte nor at an odd digit
unfoldable pub well_formed : List ℕ → Bool
well_formed l = (first_illegal l =ᵇ length l) && ((17 ≤ᵇ length l) && (length l % 2 =ᵇ 1))

-- the frame of a side, a clock and a packet's length
abbrev pub frame : ℕ → ℕ → ℕ → Frame
frame side clock n = record { side = side; clock = clock; length = n }

-- what reading gives, with room for so many packet bytes
unfoldable pub read_line : List ℕ → ℕ → Result Frame ReadLineError
read_line l room =
    when 4111 <ᵇ length l then Err TooLong
    else when not (well_formed l) then Err (Malformed (first_illegal l))
    else when room <ᵇ packet_length l then Err NoRoom
    else Ok (frame (line_side l) (line_clock l) (packet_length l))

-- what the output holds after that answer: the packet and, past it, what it held before; on a refusal all as it was
unfoldable pub packet_after : Result Frame ReadLineError → List ℕ → List ℕ → List ℕ
packet_after (Err e) l out = out
packet_after (Ok f) l out = overwrite out 0 (line_packet l)

-- what `packet` holds after `line` was read to it
abbrev pub packet_after_reading : List ℕ → List ℕ → List ℕ
packet_after_reading line packet = packet_after (read_line line (length packet)) line packet

-- Document 01's numbers

-- its number and values for each case; it leaves the offset of a frame free: 0 here
unfoldable pub read_answer : Result Frame ReadLineError → ReadAnswer
read_answer (Err TooLong) = record { number = 21; side = 0; clock = 0; length = 0; offset = 0 }
read_answer (Err (Malformed offset)) = record { number = 22; side = 0; clock = 0; length = 0; offset = offset }
read_answer (Err NoRoom) = record { number = 23; side = 0; clock = 0; length = 0; offset = 0 }
read_answer (Ok f) = record { number = 0; side = f.side; clock = f.clock; length = f.length; offset = 0 }

-- the answer to reading `line` to `packet`: number, side, clock, length and offset
abbrev pub reading : List ℕ → List ℕ → ReadAnswer
reading line packet = read_answer (read_line line (length packet))
