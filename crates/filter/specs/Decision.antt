-- Outcomes as the code holds them; `outcome_of` is the definition.
use Rattle.std.specs.Prelude.{ℕ, Result, Ok, Err}
use Rattle.connection.specs.Decision.{error_number}
use Rattle.packet.specs.Read.{PacketRead, cause_number}
use Rattle.rows.specs.Rows.{Blocked, Passed, nowhere, on_segment}
use Rattle.rows.specs.Connections.{connections}
use Rattle.entry.specs.Viewed.{viewed}
use Rattle.table.specs.Table.{view_of}
use Rattle.filter.specs.Call.{Outcome, packet_rows}
use Rattle.filter.specs.declared.BlockReason.{BlockReason}
use Rattle.filter.specs.declared.BlockReason.TheVariants.{UnknownSide, ClockTooLarge, TableLength, UnsoundTable, Packet, Unmatched, TableFull, Segment}
use Rattle.filter.specs.declared.Call.{Call}
use Rattle.filter.specs.declared.Pass.{Pass}

-- the documents' number of each reason, and its place: the offset at which the packet broke, or none
abbrev pub reason_number : BlockReason → ℕ
reason_number UnknownSide = 1
reason_number ClockTooLarge = 2
reason_number TableLength = 3
reason_number UnsoundTable = 4
reason_number (Packet e) = cause_number e.cause
reason_number Unmatched = 11
reason_number TableFull = 12
reason_number (Segment e) = error_number e

abbrev pub reason_place : BlockReason → ℕ
reason_place (Packet e) = e.offset
reason_place _ = nowhere

abbrev pub outcome_of_reason : BlockReason → Outcome
outcome_of_reason reason = Blocked (reason_number reason) (reason_place reason)

-- a pass, or why the call is blocked
abbrev pub outcome_of_result : Result Pass BlockReason → Outcome
outcome_of_result (Ok pass) = Passed pass.place pass.clock.ms (viewed pass.entry)
outcome_of_result (Err reason) = outcome_of_reason reason

-- rows 5 to 16 and 0 of what rows 1 to 4 let through, or why they block the call
abbrev pub outcome_on : Result Call BlockReason → PacketRead → Outcome
outcome_on (Ok c) read =
    packet_rows Blocked read (on_segment connections (view_of c.table.version c.table.bytes.now c.table.places) c.clock.ms c.side)
outcome_on (Err reason) read = outcome_of_reason reason
