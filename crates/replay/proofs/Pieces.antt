-- In whatever pieces the input comes, what is written is what is printed of the whole input.
use Rattle.std.proofs.Common.{◌≡◌, ℕ, ◌+◌, ◌*◌, ◌%◌, ◌^◌, ◌<◌, ◌≤◌, min, true, false, List, [], ◌∷◌, ◌++◌, length, take, set, sym, refl, ap, ◌∙◌, ⊎_elim, append_assoc, append-nil, add-one, arith, length-append, length-set, take_all, take-suc-set, eqb-true}
use lib.Seq.{take-append-le}
use borrow.Author.Tests.{eqb-false}
use Rattle.choice.specs.Choice.{◌=ᵇ◌}
use Rattle.choice.proofs.Choice.{when-either, when-=, when-=-not}
use Rattle.choice.proofs.Tests.{true-or-false, lt-or-ge}
use Rattle.octets.proofs.Overwrite.{length-overwrite, take-overwrite-end}
use Rattle.report.specs.Text.{result_text, total_text}
use Rattle.report.proofs.Text.{length-total_text≤52}
use Rattle.replay.specs.Printed.{newline, lines_from, lines_of, result_of, Run, pass_count, after_line, after_lines, printed}
use Rattle.replay.specs.Feed.{Memory, memory, with_byte, with_line, after_piece, at_end, with_total}
use Rattle.replay.specs.Written.{at_start, line_room, result_room, total_room, to_write, emptied, written, joined, HasRoom, WritesPrinted, program_table, PiecesUpTo, ProgramWritesPrinted}
use Rattle.replay.specs.declared.Progress.{Progress}
use Rattle.replay.proofs.Line.{with_byte-room, with_byte-full, after_piece-none, after_piece-at-newline, after_piece-at-other}
use Rattle.replay.proofs.Answer.{result_of-cut, result-short}

-- A memory beside the run over the whole input

-- the memory is where the run is after some lines and the beginning of the next one, and what it has to write follows what is
-- done; the output has n bytes
record Follows (n : ℕ) (done : List ℕ) (m : Memory) (r : Run) (begun : List ℕ) : Type 0 where
  size : length m.line ≡ line_room
  room : length m.out ≡ n
  kept : m.progress.kept ≡ min line_room (length begun)
  line : take m.progress.kept m.line ≡ take line_room begun
  used : m.progress.used ≤ n
  text : done ++ to_write m ≡ r.text
  table : m.table ≡ r.table
  passed : m.progress.passed ≡ r.passed % 2 ^ 64
  lines : m.progress.lines ≡ r.lines % 2 ^ 64

-- before the first line
abbrev fresh : List ℕ → Run
fresh t = record { table = t; text = []; passed = 0; lines = 0 }

-- nothing is read, and nothing is to be written
follows-start : (t l o : List ℕ) (p : Progress) → p ≡ at_start → length l ≡ line_room → Follows (length o) [] (memory t l o p) (fresh t) []
follows-start t l o p start size =
    rw start
    record {
      size = size;
      room = refl;
      kept = omega arith;
      line = refl;
      used = omega arith;
      text = refl;
      table = refl;
      passed = omega arith;
      lines = omega arith;
    }

-- writing what there is to write
follows-emptied :
    (n : ℕ) (done : List ℕ) (m : Memory) (r : Run) (begun : List ℕ) → Follows n done m r begun →
    Follows n (done ++ to_write m) (emptied m) r begun
follows-emptied n done m r begun f =
    record {
      size = f.size;
      room = f.room;
      kept = f.kept;
      line = f.line;
      used = omega arith;
      text = append-nil (done ++ to_write m) ∙ f.text;
      table = f.table;
      passed = f.passed;
      lines = f.lines;
    }

-- A byte of a line

-- a buffer that has room holds the whole line so far
byte-kept :
    (n : ℕ) (done : List ℕ) (m : Memory) (r : Run) (begun : List ℕ) (b : ℕ) → Follows n done m r begun → length begun < line_room →
    Follows n done (with_byte m b) r (begun ++ (b ∷ []))
byte-kept n done m r begun b f short =
    let k = m.progress.kept in
    let inside : k < length m.line = omega arith in
    let longer : length (begun ++ (b ∷ [])) ≡ length begun + 1 = length-append begun (b ∷ []) in
    let line : take (k + 1) (set m.line k b) ≡ take line_room (begun ++ (b ∷ [])) =
    rw add-one (take-suc-set m.line k b inside)
    ∙ ap (λ l. l ++ (b ∷ [])) (f.line ∙ take_all line_room begun (omega arith))
    ∙ sym (take_all line_room (begun ++ (b ∷ [])) (omega arith)) in
    rw (with_byte-room m b inside)
    record {
      size = simp length-set f.size;
      room = f.room;
      kept = omega arith;
      line = line;
      used = f.used;
      text = f.text;
      table = f.table;
      passed = f.passed;
      lines = f.lines;
    }

-- one that is full holds its first 4,112 bytes
byte-dropped :
    (n : ℕ) (done : List ℕ) (m : Memory) (r : Run) (begun : List ℕ) (b : ℕ) → Follows n done m r begun → line_room ≤ length begun →
    Follows n done (with_byte m b) r (begun ++ (b ∷ []))
byte-dropped n done m r begun b f long =
    let longer : length (begun ++ (b ∷ [])) ≡ length begun + 1 = length-append begun (b ∷ []) in
    rw (with_byte-full m b (omega arith))
    record {
      size = f.size;
      room = f.room;
      kept = omega arith;
      line = f.line ∙ sym (take-append-le line_room begun (b ∷ []) long);
      used = f.used;
      text = f.text;
      table = f.table;
      passed = f.passed;
      lines = f.lines;
    }

-- so either way the memory goes on beside the run
follows-byte :
    (n : ℕ) (done : List ℕ) (m : Memory) (r : Run) (begun : List ℕ) (b : ℕ) → Follows n done m r begun →
    Follows n done (with_byte m b) r (begun ++ (b ∷ []))
follows-byte n done m r begun b f =
    ⊎_elim (byte-kept n done m r begun b f) (byte-dropped n done m r begun b f) (lt-or-ge (length begun) line_room)

-- The end of a line

-- the line's first 4,112 bytes have the result of the whole line
same-result :
    (n : ℕ) (done : List ℕ) (m : Memory) (r : Run) (begun : List ℕ) → Follows n done m r begun →
    result_of (take m.progress.kept m.line) m.table ≡ result_of begun r.table
same-result n done m r begun f =
    ap (λ l. result_of l m.table) f.line ∙ result_of-cut begun m.table ∙ ap (result_of begun) f.table

-- totals are kept modulo 2^64
add-modulo : (a b x : ℕ) → a ≡ b % 2 ^ 64 → (a + x) % 2 ^ 64 ≡ (b + x) % 2 ^ 64
add-modulo a b x e = omega arith

-- the text is added, the table and the totals are the run's, and the next line has no byte yet
follows-line :
    (n : ℕ) (done : List ℕ) (m : Memory) (r : Run) (begun : List ℕ) → Follows n done m r begun → m.progress.used + result_room ≤ n →
    Follows n done (with_line m) (after_line r begun) []
unfolding with_line after_line
follows-line n done m r begun f fits =
    let s = result_of begun r.table in
    let text = result_text s.answer s.shown in
    let inside : m.progress.used + length text ≤ length m.out = omega (arith, result-short begun r.table) in
    rw (same-result n done m r begun f)
    record {
      size = f.size;
      room = length-overwrite m.out m.progress.used text inside ∙ f.room;
      kept = omega arith;
      line = refl;
      used = omega arith;
      text = ap (λ l. done ++ l) (take-overwrite-end m.out m.progress.used text inside) ∙ sym (append_assoc done (to_write m) text) ∙ ap (λ l. l ++ text) f.text;
      table = refl;
      passed = add-modulo _ _ _ f.passed;
      lines = add-modulo _ _ _ f.lines;
    }

-- what a byte and a line add to the output
with_byte-used : (m : Memory) (b : ℕ) → (with_byte m b).progress.used ≡ m.progress.used
unfolding with_byte
with_byte-used m b = when-either (λ z. z.progress.used ≡ m.progress.used) _ _ m refl refl

with_line-used : (m : Memory) → (with_line m).progress.used ≤ m.progress.used + result_room
unfolding with_line
with_line-used m = omega (arith, result-short (take m.progress.kept m.line) m.table)

-- The totals

-- totals that 64 bits hold
abbrev Counts : Run → Type 0
Counts r = (r.passed < 2 ^ 64) × (r.lines < 2 ^ 64)

-- what is printed of a run
abbrev text_of : Run → List ℕ
text_of r = r.text ++ total_text r.passed r.lines

-- the totals are below 2^64, so they are the run's
total-written :
    (n : ℕ) (done : List ℕ) (m : Memory) (r : Run) (begun : List ℕ) → Follows n done m r begun → m.progress.used + total_room ≤ n →
    Counts r →
    done ++ to_write (with_total m) ≡ text_of r
unfolding with_total
total-written n done m r begun f fits counts =
    let text = total_text m.progress.passed m.progress.lines in
    let passed : m.progress.passed ≡ r.passed = omega (arith, counts.0) in
    let lines : m.progress.lines ≡ r.lines = omega (arith, counts.1) in
    let inside : m.progress.used + length text ≤ length m.out = omega (arith, length-total_text≤52 m.progress.passed m.progress.lines) in
    ap (λ l. done ++ l) (take-overwrite-end m.out m.progress.used text inside)
    ∙ sym (append_assoc done (to_write m) text)
    ∙ ap (λ l. l ++ text) f.text
    ∙ ap (λ l. r.text ++ l) (ap (λ k. total_text k m.progress.lines) passed ∙ ap (total_text r.passed) lines)

-- The run over what is left of the input

-- the lines of what is left, of whose first one some bytes have been read
run_from : Run → List ℕ → List ℕ → Run
run_from r begun input = after_lines r (lines_from begun input)

-- a newline ends the line that has begun
run_from-newline :
    (r : Run) (begun input : List ℕ) (b : ℕ) → b ≡ newline →
    run_from r begun (b ∷ input) ≡ run_from (after_line r begun) [] input
unfolding run_from lines_from after_lines
run_from-newline r begun input b e = ap (after_lines r) (when-= _ _ e)

-- any other byte is one of its bytes
run_from-other :
    (r : Run) (begun input : List ℕ) (b : ℕ) → (b ≡ newline → ⊥) →
    run_from r begun (b ∷ input) ≡ run_from r (begun ++ (b ∷ [])) input
unfolding run_from lines_from
run_from-other r begun input b e = ap (after_lines r) (when-=-not _ _ e)

-- the end of the input: the line that has begun, if it has any byte, and the totals
end-written :
    (n : ℕ) (done : List ℕ) (m : Memory) (r : Run) (begun : List ℕ) → Follows n done m r begun →
    m.progress.used + result_room + total_room ≤ n → Counts (run_from r begun []) →
    done ++ to_write (with_total (at_end m)) ≡ text_of (run_from r begun [])
unfolding run_from lines_from after_lines at_end
end-written n done m r begun f fits counts =
    ⊎_elim
    (λ (e : length begun =ᵇ 0 ≡ true).
    let none = eqb-true (length begun) 0 e in
    rw (when-= [] (begun ∷ []) none, when-= {a = m.progress.kept} {b = 0} m (with_line m) (omega arith))
    (total-written n done m r begun f (omega arith) (rw (when-= [] (begun ∷ []) none) at counts)))
    (λ (e : length begun =ᵇ 0 ≡ false).
    let some = eqb-false (length begun) 0 e in
    rw (when-=-not [] (begun ∷ []) some, when-=-not {a = m.progress.kept} {b = 0} m (with_line m) (λ (z : m.progress.kept ≡ 0). some (omega arith)))
    (total-written n done (with_line m) (after_line r begun) [] (follows-line n done m r begun f (omega arith)) (omega (arith, with_line-used m)) (rw (when-=-not [] (begun ∷ []) some) at counts)))
    (true-or-false (length begun =ᵇ 0))

-- Pieces

-- what is to be shown of the pieces that are left
abbrev WritesRest : ℕ → List (List ℕ) → Type 0
WritesRest n pieces =
    (done : List ℕ) (m : Memory) (r : Run) (begun : List ℕ) → Follows n done m r begun → m.progress.used ≡ 0 → HasRoom n pieces → Counts (run_from r begun (joined pieces)) →
    done ++ written m pieces ≡ text_of (run_from r begun (joined pieces))

-- a piece before further ones, byte by byte
piece-written :
    (n : ℕ) (pieces : List (List ℕ)) → WritesRest n pieces → (piece done : List ℕ) (m : Memory) (r : Run) (begun : List ℕ) →
    Follows n done m r begun → m.progress.used + result_room * length piece ≤ n → HasRoom n pieces →
    Counts (run_from r begun (piece ++ joined pieces)) →
    done ++ (to_write (after_piece m piece) ++ written (emptied (after_piece m piece)) pieces) ≡ text_of (run_from r begun (piece ++ joined pieces))
piece-written n pieces further [] done m r begun f fits room counts =
    rw (after_piece-none m)
    (sym (append_assoc done (to_write m) (written (emptied m) pieces))
    ∙ further (done ++ to_write m) (emptied m) r begun (follows-emptied n done m r begun f) refl room counts)
piece-written n pieces further (b ∷ piece) done m r begun f fits room counts =
    ⊎_elim
    (λ (t : b =ᵇ newline ≡ true).
    let e = eqb-true b newline t in
    let run = run_from-newline r begun (piece ++ joined pieces) b e in
    rw (after_piece-at-newline m b piece e, run)
    (piece-written n pieces further piece done (with_line m) (after_line r begun) [] (follows-line n done m r begun f (omega arith)) (omega (arith, with_line-used m)) room (rw run at counts)))
    (λ (t : b =ᵇ newline ≡ false).
    let e = eqb-false b newline t in
    let run = run_from-other r begun (piece ++ joined pieces) b e in
    rw (after_piece-at-other m b piece e, run)
    (piece-written n pieces further piece done (with_byte m b) r (begun ++ (b ∷ [])) (follows-byte n done m r begun b f) (omega (arith, with_byte-used m b)) room (rw run at counts)))
    (true-or-false (b =ᵇ newline))

-- one piece after the other
pieces-written : (n : ℕ) (pieces : List (List ℕ)) → WritesRest n pieces
unfolding written joined HasRoom
pieces-written n [] done m r begun f none room counts = end-written n done m r begun f (omega arith) counts
pieces-written n (piece ∷ pieces) done m r begun f none room counts =
    piece-written n pieces (pieces-written n pieces) piece done m r begun f (omega (arith, room.0)) room.1 counts

-- The theorem

-- the totals grow by at most one a line
counts-lines :
    (r : Run) (lines : List (List ℕ)) →
    ((after_lines r lines).passed ≤ r.passed + length lines) × ((after_lines r lines).lines ≡ r.lines + length lines)
unfolding after_lines after_line
counts-lines r [] = (omega arith, omega arith)
counts-lines r (line ∷ lines) =
    let h = counts-lines (after_line r line) lines in
    let one : pass_count (result_of line r.table).answer ≤ 1 = when-either (λ k. k ≤ 1) _ 1 0 (omega arith) (omega arith) in
    (omega (arith, h.0), omega (arith, h.1))

-- a run starts beside the memory at the start, and stays beside it
pub writes-printed : WritesPrinted
unfolding printed run_from
writes-printed m pieces size start room few =
    let h = counts-lines (fresh m.table) (lines_of (joined pieces)) in
    pieces-written (length m.out) pieces [] m (fresh m.table) [] (follows-start m.table m.line m.out m.progress start size) (ap (λ p. p.used) start) room
    (omega (arith, h.0), omega (arith, h.1))

-- 8 characters for each of 65,536 bytes
program-room : (n : ℕ) (pieces : List (List ℕ)) → n ≡ 524288 → PiecesUpTo 65536 pieces → HasRoom n pieces
unfolding HasRoom PiecesUpTo
program-room n [] e most = omega arith
program-room n (piece ∷ pieces) e most = (omega (arith, most.0), program-room n pieces e most.1)

pub program-writes-printed : ProgramWritesPrinted
program-writes-printed line out pieces size large most few =
    writes-printed (memory program_table line out at_start) pieces size refl (program-room (length out) pieces large most) few
