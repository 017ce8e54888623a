-- Laws of a line's result: how it goes by the reader's answer, that it is never 23, that 5 to 10 and 16 show their offset, that its text is short, and
-- that a line cut at 4,112 bytes has it.
use Rattle.std.proofs.Common.{◌≡◌, ℕ, ◌+◌, ◌<◌, ◌≤◌, List, length, take, drop, sym, refl, ap, ◌∙◌, ⊎_elim, arith, length-take, take_all, ltb-false, ltb-true, Option, Some, None, Ok, Err, Result as OkOrErr}
use Rattle.choice.proofs.Choice.{when-cases, when-=, when-=-not}
use Rattle.choice.proofs.Tests.{lt-or-ge}
use Rattle.octets.specs.Overwrite.{overwrite}
use Rattle.octets.proofs.Digits.{length-tabulate}
use Rattle.octets.proofs.Overwrite.{overwrite-there}
use Rattle.trace.specs.Line.{packet_length, line_packet}
use Rattle.trace.specs.Read.{read_line, packet_after, packet_after_reading, read_answer}
use Rattle.trace.specs.declared.Frame.{Frame}
use Rattle.trace.specs.declared.ReadLineError.{ReadLineError}
use Rattle.trace.specs.declared.ReadLineError.TheVariants.{TooLong, Malformed, NoRoom}
use Rattle.trace.proofs.Read.{first_illegal≤length, read_line-too-long}
use Rattle.report.specs.Text.{shown_text, shown_place, result_text, total_text}
use Rattle.report.proofs.Text.{length-decimal_text≤, length-result_text}
use Rattle.address.specs.declared.Version.TheVariants.{V4}
use Rattle.rows.specs.Rows.{Blocked, Passed}
use Rattle.packet.specs.Read.{refused_at, read_ipv4}
use Rattle.packet.specs.declared.Cause.{Cause}
use Rattle.packet.proofs.Causes.{packet-answer-bounds}
use Rattle.packet.proofs.Readable.{ipv4-reader}
use Rattle.filter.specs.Call.{Outcome, ipv4_outcome, reply_of, table_after}
use Rattle.filter.specs.declared.Reply.{Reply}
use Rattle.filter.proofs.Within.{Placed, by-reader, by-other-row, broken-at, Within, outcome-within, reply-small}
use Rattle.replay.specs.Feed.{Memory, memory, with_used, with_total}
use Rattle.replay.specs.Written.{line_room, result_room}
use Rattle.replay.specs.Printed.{Result, room, of_call, of_read, result_of, Never23, ShowsOffset, EveryLineShowsOffset}

-- The reader's answer

-- an offset lies in a line of at most 4,111 characters, whose packet fits
abbrev Bounded : List ℕ → OkOrErr Frame ReadLineError → Type 0
Bounded line (Err TooLong) = Unit {0}
Bounded line (Err (Malformed offset)) = offset ≤ 4111
Bounded line (Err NoRoom) = ⊥
Bounded line (Ok f) = (f.length ≡ packet_length line) × (f.length ≤ room)

packet-fits : (line : List ℕ) → length line ≤ 4111 → packet_length line ≤ room
unfolding packet_length
packet-fits line short = omega arith

-- each answer comes with the tests that it passed
read_line-bounded : (line : List ℕ) → Bounded line (read_line line room)
unfolding read_line
read_line-bounded line =
    when-cases (Bounded line) _ _ _ (λ _. tt)
    (λ t. let short = ltb-false 4111 (length line) t in when-cases (Bounded line) _ _ _ (λ _. omega (arith, first_illegal≤length line, short))
    (λ _. when-cases (Bounded line) _ _ _ (λ over. omega (arith, packet-fits line short, ltb-true room (packet_length line) over))
    (λ fits. (refl, ltb-false room (packet_length line) fits))))

-- what the filter is shown: the packet of the line
pub frame-packet :
    (line packet : List ℕ) (f : Frame) → read_line line room ≡ Ok f → length packet ≡ room →
    (f.length ≤ room) × (take f.length (drop 0 (packet_after_reading line packet)) ≡ line_packet line)
unfolding packet_after line_packet
frame-packet line packet f frame size =
    let bounds : (f.length ≡ packet_length line) × (f.length ≤ room) = rw frame at (read_line-bounded line) in
    let count : length (line_packet line) ≡ f.length = length-tabulate _ _ ∙ sym bounds.0 in
    (bounds.1, rw (size, frame, ← count) (overwrite-there packet 0 (line_packet line) (omega arith)))

-- The result

-- by the answer of the reader
pub result_of-read : (line t : List ℕ) (read : OkOrErr Frame ReadLineError) → read ≡ read_line line room → result_of line t ≡ of_read read line t
unfolding result_of
result_of-read line t read e = ap (λ r. of_read r line t) (sym e)

-- the filter's answer to the packet of a line
pub result_of-frame :
    (line t packet after : List ℕ) (f : Frame) (reply : Reply) (shown : Option ℕ) → Ok f ≡ read_line line room →
    packet ≡ line_packet line →
    (reply ≡ reply_of (ipv4_outcome f.side f.clock t packet)) × (after ≡ table_after V4 t (ipv4_outcome f.side f.clock t packet)) →
    shown ≡ shown_place reply.place →
    ◌≡◌ {A = Result} (record { answer = reply.answer; shown = shown; table = after }) (result_of line t)
result_of-frame line t packet after f reply shown whole is called place =
    rw (result_of-read line t (Ok f) whole, ← is, place, called.1, called.0)

-- each answer but 23
read-never-23 : (line t : List ℕ) (read : OkOrErr Frame ReadLineError) → Bounded line read → (of_read read line t).answer ≡ 23 → ⊥
unfolding read_answer
read-never-23 line t (Err TooLong) b e = omega arith
read-never-23 line t (Err (Malformed offset)) b e = omega arith
read-never-23 line t (Err NoRoom) b e = b
read-never-23 line t (Ok f) b e = omega (arith, (reply-small V4 read_ipv4 ipv4-reader f.side f.clock t (line_packet line)).0)

pub never-23 : Never23
unfolding result_of
never-23 line t = read-never-23 line t (read_line line room) (read_line-bounded line)

-- an offset is shown as it is, since it is below 120
module _ (t packet : List ℕ) where
  offset-number :
      (n place : ℕ) (cause : Cause) → read_ipv4 packet ≡ refused_at cause place →
      (place < 120) × ((of_call t (Blocked n place)).shown ≡ Some place)
  unfolding shown_place
  offset-number n place cause is =
      let below = (ipv4-reader.points packet cause place is).below_120 in
      (below, when-=-not None (Some place) (λ (none : place ≡ 65535). omega (arith, below)))

  call-shown : (o : Outcome) → Within V4 t (read_ipv4 packet) o → ShowsOffset packet (of_call t o)
  call-shown (Blocked n place) within answer =
      let broken = broken-at V4 read_ipv4 ipv4-reader packet n place within.2 answer in
      (place, broken, (offset-number n place broken.cause broken.read_as).1)
  call-shown (Passed p now e) within answer = absurd (omega (arith, (packet-answer-bounds answer).0))

read-shown : (line t : List ℕ) (read : OkOrErr Frame ReadLineError) → ShowsOffset (line_packet line) (of_read read line t)
unfolding read_answer
read-shown line t (Err TooLong) answer = absurd (omega (arith, (packet-answer-bounds answer).1))
read-shown line t (Err (Malformed offset)) answer = absurd (omega (arith, (packet-answer-bounds answer).1))
read-shown line t (Err NoRoom) answer = absurd (omega (arith, (packet-answer-bounds answer).1))
read-shown line t (Ok f) answer =
    call-shown t (line_packet line) (ipv4_outcome f.side f.clock t (line_packet line)) (outcome-within V4 f.side f.clock t (read_ipv4 (line_packet line))) answer

pub every-line-shows-offset : EveryLineShowsOffset
unfolding result_of
every-line-shows-offset line t = read-shown line t (read_line line room)

-- a line that is cut where it is too long already is still too long
pub result_of-cut : (line t : List ℕ) → result_of (take line_room line) t ≡ result_of line t
result_of-cut line t =
    ⊎_elim
    (λ (short : length line < line_room). ap (λ l. result_of l t) (take_all line_room line (omega arith)))
    (λ (long : line_room ≤ length line).
    result_of-read (take line_room line) t (Err TooLong) (sym (read_line-too-long (take line_room line) room (rw (length-take line_room line) (omega arith))))
    ∙ sym (result_of-read line t (Err TooLong) (sym (read_line-too-long line room (omega arith)))))
    (lt-or-ge (length line) line_room)

-- The room that its text takes

-- the text has at most 8 characters
abbrev Short : Result → Type 0
Short s = length (result_text s.answer s.shown) ≤ result_room

-- 2 digits, a space, a dash and a newline
dash-short : (t : List ℕ) (answer : ℕ) → answer < 100 → Short (record { answer = answer; shown = None; table = t })
unfolding shown_text
dash-short t answer small = omega (arith, length-result_text answer None, length-decimal_text≤ 1 answer small)

-- 2 digits, a space, 4 digits and a newline
number_short : (t : List ℕ) (answer n : ℕ) → answer < 100 → n < 10000 → Short (record { answer = answer; shown = Some n; table = t })
unfolding shown_text
number_short t answer n small below =
    omega (arith, length-result_text answer (Some n), length-decimal_text≤ 1 answer small, length-decimal_text≤ 3 n below)

-- an answer of the filter is at most 16, an offset below 120, and a place below 512
module _ (t packet : List ℕ) where
  refusal-short : (n place : ℕ) → n ≤ 16 → Placed (read_ipv4 packet) n place → Short (of_call t (Blocked n place))
  unfolding shown_place
  refusal-short n place most (by-reader cause is numbered) =
      let shown = offset-number t packet n place cause is in
      rw shown.1 (number_short t n place (omega arith) (omega (arith, shown.0)))
  refusal-short n place most (by-other-row other none) = rw (when-= None (Some place) none) (dash-short t n (omega arith))

  call-short : (o : Outcome) → Within V4 t (read_ipv4 packet) o → Short (of_call t o)
  unfolding shown_place
  call-short (Blocked n place) within = refusal-short n place within.1 within.2
  call-short (Passed p now e) within =
      rw (when-=-not None (Some p) (λ (none : p ≡ 65535). omega (arith, within.0))) (number_short t 0 p (omega arith) (omega (arith, within.0)))

-- the offset of a malformed line is at most 4,111
read_short : (line t : List ℕ) (read : OkOrErr Frame ReadLineError) → Bounded line read → Short (of_read read line t)
unfolding read_answer
read_short line t (Err TooLong) b = dash-short t 21 (omega arith)
read_short line t (Err (Malformed offset)) b = number_short t 22 offset (omega arith) (omega arith)
read_short line t (Err NoRoom) b = absurd b
read_short line t (Ok f) b = call-short t (line_packet line) (ipv4_outcome f.side f.clock t (line_packet line)) (outcome-within V4 f.side f.clock t (read_ipv4 (line_packet line)))

-- so it is for every line
pub result-short : (line t : List ℕ) → length (result_text (result_of line t).answer (result_of line t).shown) ≤ result_room
unfolding result_of
result-short line t = read_short line t (read_line line room) (read_line-bounded line)

pub text-short : (line t : List ℕ) (s : Result) → s ≡ result_of line t → length (result_text s.answer s.shown) ≤ result_room
text-short line t s e = rw (ap (λ (s : Result). length (result_text s.answer s.shown)) e) (result-short line t)

-- The end of the input

-- the totals, written
pub with_total-put :
    (m : Memory) (out : List ℕ) (used : ℕ) →
    (used ≡ m.progress.used + length (total_text m.progress.passed m.progress.lines)) × (out ≡ overwrite m.out m.progress.used (total_text m.progress.passed m.progress.lines)) →
    memory m.table m.line out (with_used m.progress used) ≡ with_total m
unfolding with_total
with_total-put m out used put = rw (put.0, put.1)
