-- Reading undoes writing, and writing undoes reading.
use Prim.Native.Nat.{ℕ, ◌+◌, ◌*◌, ◌≤◌}
use mathlib.Core.Path.{◌≡◌, sym, ◌∙◌}
use mathlib.Core.List.{List}
use native.Mathlib.Omega.{arith}
use lib.ListN.{length}
use Rattle.octets.proofs.Overwrite.{overwrite-there}
use Rattle.trace.specs.Line.{LegalLine, LegalValues, line_side, line_clock, line_packet, line_of}
use Rattle.trace.specs.Read.{packet_after}
use Rattle.trace.specs.Write.{line_after}
use Rattle.trace.specs.RoundTrip.{characters_written, bytes_read, ReadingUndoesWriting, WritingUndoesReading}
use Rattle.trace.proofs.Line.{length-line_of, line_side-line_of, line_clock-line_of, line_packet-line_of, line_of-legal, length-line_packet, line_of-legal-line, legal-line-values}
use Rattle.trace.proofs.Read.{read_line-legal}
use Rattle.trace.proofs.Write.{write_line-legal}

-- What stands in the output

characters_written-legal :
    (side clock : ℕ) (packet line : List ℕ) → LegalValues side clock packet → 15 + 2 * length packet ≤ length line →
    characters_written (15 + 2 * length packet) side clock packet line ≡ line_of side clock packet
unfolding line_after
characters_written-legal side clock packet line legal room =
    let size = length-line_of side clock packet in
    rw (write_line-legal side clock packet (length line) legal room)
    (rw size at (overwrite-there line 0 (line_of side clock packet) (rw size (omega arith))))

bytes_read-legal : (l : List ℕ) (n : ℕ) (out : List ℕ) → LegalLine l n → n ≤ length out → bytes_read n l out ≡ line_packet l
unfolding packet_after
bytes_read-legal l n out legal fits =
    let size = length-line_packet l n legal in
    rw (read_line-legal l n (length out) legal fits) (rw size at (overwrite-there out 0 (line_packet l) (rw size (omega arith))))

-- The theorems

-- what is written is read back
pub read-written : ReadingUndoesWriting
read-written side clock packet line out legal room fits =
    let lined = line_of-legal side clock packet legal in
    let stands = characters_written-legal side clock packet line legal room in
    record {
      written = write_line-legal side clock packet (length line) legal room;
      frame =
          rw stands
          (rw (line_side-line_of side clock packet, line_clock-line_of side clock packet legal.clock_fits) at
          (read_line-legal (line_of side clock packet) (length packet) (length out) lined fits));
      bytes =
          rw stands (bytes_read-legal (line_of side clock packet) (length packet) out lined fits ∙ line_packet-line_of side clock packet legal.each);
    }

-- what is read is written back
pub write_read : WritingUndoesReading
write_read l n out line legal fits room =
    let said = legal-line-values l n legal in
    let size : 15 + 2 * length (line_packet l) ≡ length l = rw (length-line_packet l n legal) (sym legal.whole) in
    let stands = bytes_read-legal l n out legal fits in
    record {
      frame = read_line-legal l n (length out) legal fits;
      written =
          rw stands (rw size at (write_line-legal (line_side l) (line_clock l) (line_packet l) (length line) said (rw size room)));
      characters =
          rw stands
          (rw size at (characters_written-legal (line_side l) (line_clock l) (line_packet l) line said (rw size room))
          ∙ line_of-legal-line l n legal);
    }
