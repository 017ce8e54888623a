-- What is printed of a trace, byte by byte in the memory of a program that is given its input in pieces.
use Rattle.std.specs.Prelude.{ℕ, suc, ◌+◌, ◌-◌, ◌%◌, ◌^◌, List, [], ◌∷◌, length, take, slice_set, Option}
use Rattle.choice.specs.Choice.{when◌then◌else◌, ◌<ᵇ◌, ◌=ᵇ◌}
use Rattle.octets.specs.Overwrite.{overwrite}
use Rattle.report.specs.Text.{result_text, total_text}
use Rattle.replay.specs.Printed.{newline, Result, result_of, pass_count}
use Rattle.replay.specs.declared.Progress.{Progress}

-- the table, a buffer for the line that has not ended yet, the output, and how far each is
pub record Memory : Type 0 where
  pub table : List ℕ
  pub line : List ℕ
  pub out : List ℕ
  pub progress : Progress

abbrev pub memory : List ℕ → List ℕ → List ℕ → Progress → Memory
memory t l o p = record { table = t; line = l; out = o; progress = p }

abbrev pub with_table : Memory → List ℕ → Memory
with_table m t = memory t m.line m.out m.progress

-- A byte of a line

abbrev pub with_kept : Progress → ℕ → Progress
with_kept p n = record { kept = n; used = p.used; passed = p.passed; lines = p.lines }

-- one more byte of a line; what the buffer has no room for is dropped
unfoldable pub with_byte : Memory → ℕ → Memory
with_byte m b =
    let p = m.progress in
    when p.kept <ᵇ length m.line then memory m.table (slice_set m.line p.kept b) m.out (with_kept p (p.kept + 1))
    else m

-- The end of a line

-- totals are kept modulo 2^64
abbrev pub with_answer : Progress → ℕ → Option ℕ → Progress
with_answer p answer shown =
    record { kept = 0; used = p.used + length (result_text answer shown); passed = (p.passed + pass_count answer) % 2 ^ 64; lines = (p.lines + 1) % 2 ^ 64 }

abbrev pub with_result : Memory → Result → Memory
with_result m s =
    let p = m.progress in
    memory s.table m.line (overwrite m.out p.used (result_text s.answer s.shown)) (with_answer p s.answer s.shown)

-- the line has ended: its text is added to the output
unfoldable pub with_line : Memory → Memory
with_line m = with_result m (result_of (take m.progress.kept m.line) m.table)

-- The input

unfoldable pub after_byte : Memory → ℕ → Memory
after_byte m b = when b =ᵇ newline then with_line m else with_byte m b

-- after a piece of the input
unfoldable pub after_piece : Memory → List ℕ → Memory
after_piece m [] = m
after_piece m (b ∷ bytes) = after_piece (after_byte m b) bytes

-- at the end of the input: a last line without a newline is a line if it has any byte
unfoldable pub at_end : Memory → Memory
at_end m = when m.progress.kept =ᵇ 0 then m else with_line m

abbrev pub with_used : Progress → ℕ → Progress
with_used p n = record { kept = p.kept; used = n; passed = p.passed; lines = p.lines }

-- and the totals
unfoldable pub with_total : Memory → Memory
with_total m =
    let p = m.progress in
    let text = total_text p.passed p.lines in
    memory m.table m.line (overwrite m.out p.used text) (with_used p (p.used + length text))

-- Parts of a piece

-- how many bytes stand before the first newline
unfoldable pub before_newline : List ℕ → ℕ
before_newline [] = 0
before_newline (b ∷ bytes) = when b =ᵇ newline then 0 else suc (before_newline bytes)

-- those bytes of a line that a buffer has room for, which holds some of it already
abbrev pub fitting : List ℕ → ℕ → List ℕ → List ℕ
fitting line kept bytes = take (length line - kept) bytes

-- and they are kept
abbrev pub with_fitting : Memory → List ℕ → Memory
with_fitting m bytes =
    let p = m.progress in
    let more = fitting m.line p.kept bytes in
    memory m.table (overwrite m.line p.kept more) m.out (with_kept p (p.kept + length more))
