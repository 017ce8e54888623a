-- What a program writes that takes its input in pieces and, after each, writes what the output then holds.
use Rattle.std.specs.Prelude.{◌≡◌, ℕ, ◌+◌, ◌*◌, ◌^◌, ◌<◌, ◌≤◌, List, [], ◌∷◌, ◌++◌, length, take, replicate}
use Rattle.replay.specs.Printed.{lines_of, printed}
use Rattle.replay.specs.Feed.{Memory, memory, with_used, after_piece, at_end, with_total}
use Rattle.replay.specs.declared.Progress.{Progress}

-- before the first piece
abbrev pub at_start : Progress
at_start = record { kept = 0; used = 0; passed = 0; lines = 0 }

abbrev pub to_write : Memory → List ℕ
to_write m = take m.progress.used m.out

abbrev pub emptied : Memory → Memory
emptied m = memory m.table m.line m.out (with_used m.progress 0)

unfoldable pub written : Memory → List (List ℕ) → List ℕ
written m [] = to_write (with_total (at_end m))
written m (piece ∷ pieces) = to_write (after_piece m piece) ++ written (emptied (after_piece m piece)) pieces

-- the input that pieces make up
unfoldable pub joined : List (List ℕ) → List ℕ
joined [] = []
joined (piece ∷ pieces) = piece ++ joined pieces

-- a buffer of one byte more than the longest line tells an over-long line
abbrev pub line_room : ℕ
line_room = 4112

-- a result's line has at most 8 characters, and the last one at most 52
abbrev pub result_room : ℕ
result_room = 8

abbrev pub total_room : ℕ
total_room = 52

-- the output has room for each piece's text
unfoldable pub HasRoom : ℕ → List (List ℕ) → Type 0
HasRoom out [] = result_room + total_room ≤ out
HasRoom out (piece ∷ pieces) = (result_room * length piece ≤ out) × HasRoom out pieces

-- in whatever pieces the input comes, what is written is what document 01 says of the whole of it; totals are counted in 64 bits
abbrev pub WritesPrinted : Type 0
WritesPrinted =
    (m : Memory) (pieces : List (List ℕ)) → length m.line ≡ line_room → m.progress ≡ at_start →
    HasRoom (length m.out) pieces → length (lines_of (joined pieces)) < 2 ^ 64 → written m pieces ≡ printed m.table (joined pieces)

-- The program

-- its table has 64 places and starts as 4,160 zero bytes
abbrev pub program_table : List ℕ
program_table = replicate 4160 0

-- every piece has at most so many bytes
unfoldable pub PiecesUpTo : ℕ → List (List ℕ) → Type 0
PiecesUpTo most [] = Unit {0}
PiecesUpTo most (piece ∷ pieces) = (length piece ≤ most) × PiecesUpTo most pieces

-- with the program's buffers: 64 places of zeros, pieces of at most 65,536 bytes, 8 characters of output for each byte
abbrev pub ProgramWritesPrinted : Type 0
ProgramWritesPrinted =
    (line out : List ℕ) (pieces : List (List ℕ)) → length line ≡ line_room → length out ≡ 524288 → PiecesUpTo 65536 pieces →
    length (lines_of (joined pieces)) < 2 ^ 64 → written (memory program_table line out at_start) pieces ≡ printed program_table (joined pieces)
