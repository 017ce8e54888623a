-- What it means that reading undoes writing, and writing undoes reading (document 00, demand 2).
use Rattle.std.specs.Prelude.{ℕ, ◌+◌, ◌*◌, ◌≤◌, ◌≡◌, List, length, take, Ok}
use Rattle.trace.specs.Line.{LegalLine, LegalValues, line_side, line_clock}
use Rattle.trace.specs.Read.{frame, read_line, packet_after_reading}
use Rattle.trace.specs.Write.{write_line, line_after_writing}

-- the first n characters of `line` after side, clock and packet were written to it
abbrev pub characters_written : ℕ → ℕ → ℕ → List ℕ → List ℕ → List ℕ
characters_written n side clock packet line = take n (line_after_writing side clock packet line)

-- the first n bytes of `out` after the line l was read to it
abbrev pub bytes_read : ℕ → List ℕ → List ℕ → List ℕ
bytes_read n l out = take n (packet_after_reading l out)

-- side, clock and packet are written to `line`, and the line that then stands there is read to `out`: they are what is read
pub record ReadWritten (side clock : ℕ) (packet line out : List ℕ) : Type 0 where
  pub written : write_line side clock (length packet) (length line) ≡ Ok (15 + 2 * length packet)
  pub frame : read_line (characters_written (15 + 2 * length packet) side clock packet line) (length out) ≡ Ok (frame side clock (length packet))
  pub bytes : bytes_read (length packet) (characters_written (15 + 2 * length packet) side clock packet line) out ≡ packet

-- the line l is read to `out`, and the n packet bytes that then stand there are written to `line`: the line is what is written
pub record WriteRead (l : List ℕ) (n : ℕ) (out line : List ℕ) : Type 0 where
  pub frame : read_line l (length out) ≡ Ok (frame (line_side l) (line_clock l) n)
  pub written : write_line (line_side l) (line_clock l) (length (bytes_read n l out)) (length line) ≡ Ok (length l)
  pub characters : characters_written (length l) (line_side l) (line_clock l) (bytes_read n l out) line ≡ l

-- for legal values with room, reading what was written gives the same side, clock and packet
abbrev pub ReadingUndoesWriting : Type 0
ReadingUndoesWriting =
    (side clock : ℕ) (packet line out : List ℕ) → LegalValues side clock packet → 15 + 2 * length packet ≤ length line → length packet ≤ length out →
    ReadWritten side clock packet line out

-- for every legal line with room, writing what was read gives the same line
abbrev pub WritingUndoesReading : Type 0
WritingUndoesReading = (l : List ℕ) (n : ℕ) (out line : List ℕ) → LegalLine l n → n ≤ length out → length l ≤ length line → WriteRead l n out line
