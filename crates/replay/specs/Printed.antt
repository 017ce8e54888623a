-- What is printed of a trace (document 01, "Trace lines"), told of the whole input. Input, lines and text are lists of bytes.
use Rattle.std.specs.Prelude.{◌≡◌, ℕ, ◌+◌, List, [], ◌∷◌, ◌++◌, length, ◌≢◌, Option, Some, None, Ok, Err, Result as OkOrErr}
use Rattle.choice.specs.Choice.{when◌then◌else◌, ◌=ᵇ◌}
use Rattle.trace.specs.Line.{line_packet}
use Rattle.trace.specs.Read.{read_line, read_answer}
use Rattle.trace.specs.declared.Frame.{Frame}
use Rattle.trace.specs.declared.ReadLineError.{ReadLineError}
use Rattle.trace.specs.declared.ReadLineError.TheVariants.{TooLong, Malformed, NoRoom}
use Rattle.report.specs.Text.{shown_place, result_text, total_text}
use Rattle.address.specs.declared.Version.TheVariants.{V4}
use Rattle.packet.specs.Read.{read_ipv4}
use Rattle.packet.specs.Reader.{PacketAnswer, BrokenAt}
use Rattle.filter.specs.Call.{Outcome, ipv4_outcome, reply_of, table_after}

-- Lines

abbrev pub newline : ℕ
newline = 10

-- the lines of an input, of whose first one some bytes have been read: each goes to its newline; a last line without a
-- newline is a line if it has any byte
unfoldable pub lines_from : List ℕ → List ℕ → List (List ℕ)
lines_from begun [] = when length begun =ᵇ 0 then [] else begun ∷ []
lines_from begun (b ∷ input) = when b =ᵇ newline then begun ∷ lines_from [] input else lines_from (begun ++ (b ∷ [])) input

abbrev pub lines_of : List ℕ → List (List ℕ)
lines_of input = lines_from [] input

-- One line

-- what a line comes to: its answer, what is shown after it, and the table that it leaves
pub record Result : Type 0 where
  pub answer : ℕ
  pub shown : Option ℕ
  pub table : List ℕ

-- a line's packet has at most 2,048 bytes, so reading never lacks room: `Never23`
abbrev pub room : ℕ
room = 2048

-- the place, for 5 to 10 and 16 the offset at which the packet broke (document 02, items 2 and 5); `-` for 65,535
abbrev pub of_call : List ℕ → Outcome → Result
of_call t o = record { answer = (reply_of o).answer; shown = shown_place (reply_of o).place; table = table_after V4 t o }

-- the offset for 22, `-` for 21
abbrev pub shown_offset : ReadLineError → Option ℕ
shown_offset TooLong = None
shown_offset (Malformed offset) = Some offset
shown_offset NoRoom = None

-- a line refused by the reader isn't shown to the filter
abbrev pub of_read : OkOrErr Frame ReadLineError → List ℕ → List ℕ → Result
of_read (Err e) line t = record { answer = (read_answer (Err e)).number; shown = shown_offset e; table = t }
of_read (Ok f) line t = of_call t (ipv4_outcome f.side f.clock t (line_packet line))

unfoldable pub result_of : List ℕ → List ℕ → Result
result_of line t = of_read (read_line line room) line t

-- no line is answered 23: one of at most 4,111 characters has at most 2,048 packet bytes, and the filter's answers are at most 16
abbrev pub Never23 : Type 0
Never23 = (line t : List ℕ) → (result_of line t).answer ≢ 23

-- after 5 to 10 and 16 the offset is shown at which the packet broke, never `-`
abbrev pub ShowsOffset : List ℕ → Result → Type 0
ShowsOffset packet s = PacketAnswer s.answer → (offset : ℕ) × BrokenAt read_ipv4 packet s.answer offset × (s.shown ≡ Some offset)

abbrev pub EveryLineShowsOffset : Type 0
EveryLineShowsOffset = (line t : List ℕ) → ShowsOffset (line_packet line) (result_of line t)

-- The whole input

-- after some lines: the table, the text printed of them, the answers 0 among them, and how many they are
pub record Run : Type 0 where
  pub table : List ℕ
  pub text : List ℕ
  pub passed : ℕ
  pub lines : ℕ

-- what a line adds to the answers 0
abbrev pub pass_count : ℕ → ℕ
pass_count answer = when answer =ᵇ 0 then 1 else 0

unfoldable pub after_line : Run → List ℕ → Run
after_line r line =
    let s = result_of line r.table in
    record { table = s.table; text = r.text ++ result_text s.answer s.shown; passed = r.passed + pass_count s.answer; lines = r.lines + 1 }

unfoldable pub after_lines : Run → List (List ℕ) → Run
after_lines r [] = r
after_lines r (line ∷ lines) = after_lines (after_line r line) lines

-- the run over an input from a table
abbrev pub run_of : List ℕ → List ℕ → Run
run_of t input = after_lines (record { table = t; text = []; passed = 0; lines = 0 }) (lines_of input)

-- all that is printed: a line for each line, and `passed P of L`, for P and L below 10^20
unfoldable pub printed : List ℕ → List ℕ → List ℕ
printed t input = (run_of t input).text ++ total_text (run_of t input).passed (run_of t input).lines
