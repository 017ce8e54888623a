-- Demand 2 for one connection: after any segments presented to it, its numbers and its next answer are the history's.
use Rattle.std.specs.Prelude.{ℕ, ◌<◌, ◌≤◌, ◌≡◌, Bool, List, [], ◌∷◌}
use Rattle.choice.specs.Choice.{when◌then◌else◌, ◌=ᵇ◌}
use Rattle.segment.specs.Flags.{rst, SYN}
use Rattle.segment.specs.declared.Segment.{Segment}
use Rattle.connection.specs.Ends.{opener}
use Rattle.connection.specs.Decision.{Verdict, pass, verdict_on, verdict_number, free, opened, passed}
use Rattle.connection.specs.declared.Connection.{Connection}
use Rattle.history.specs.History.{LineSegment, stage_of, placed, judge, Holds, Placeable}
use Rattle.history.specs.Places.{ByAllPlaces}

-- a segment presented to a connection, of its opener or its answerer, at a clock used
pub record Presented : Type 0 where
  pub sender : ℕ
  pub segment : Segment
  pub now : ℕ

pub record Presentable (o : Presented) : Type 0 where
  pub sender_known : o.sender < 2
  pub placeable : Placeable o.segment

-- each of a list is presentable
unfoldable pub AllPresentable : List Presented → Type 0
AllPresentable [] = Unit {0}
AllPresentable (o ∷ l) = Presentable o × AllPresentable l

-- its segment on the line, over a history
abbrev pub on_line : List LineSegment → Presented → LineSegment
on_line h o = placed h o.sender o.segment

-- the connection's answer, and the history's
abbrev pub answer_to : Connection → Presented → Verdict
answer_to c o = verdict_on c o.sender o.segment

abbrev pub judged_over : List LineSegment → Presented → Verdict
judged_over h o = judge h (on_line h o)

-- the connection that its pass leaves
abbrev pub left_by : Connection → Presented → Connection
left_by c o = passed c o.sender o.segment o.now

-- document 01's answer 0
abbrev pub is_pass : Verdict → Bool
is_pass v = verdict_number v =ᵇ 0

-- After a list of presentations, the newest first: only a pass changes anything

unfoldable pub connection_after : Connection → List Presented → Connection
connection_after c [] = c
connection_after c (o ∷ l) =
    when is_pass (answer_to (connection_after c l) o) then left_by (connection_after c l) o else connection_after c l

-- a pass puts the segment on top
unfoldable pub history_after : List LineSegment → List Presented → List LineSegment
history_after h [] = h
history_after h (o ∷ l) =
    when is_pass (judged_over (history_after h l) o) then on_line (history_after h l) o ∷ history_after h l else history_after h l

-- none freed it: each reset that passed did so from stage 2 on
unfoldable pub NoneFreed : List LineSegment → List Presented → Type 0
NoneFreed h [] = Unit {0}
NoneFreed h (o ∷ l) =
    NoneFreed h l × (judged_over (history_after h l) o ≡ pass → rst o.segment.flags ≡ 1 → 2 ≤ stage_of (history_after h l))

-- the history of an opening SYN alone
abbrev pub opening_history : Segment → List LineSegment
opening_history g = placed [] opener g ∷ []

-- a connection and a history agree: on the six numbers, FIN bits and stage, and on the answer to o; and a reset that passes in stage 1 frees
pub record Agree (c : Connection) (h : List LineSegment) (o : Presented) : Type 0 where
  pub holds : Holds c h
  pub answer : answer_to c o ≡ judged_over h o
  pub freed : answer_to c o ≡ pass → stage_of h ≡ 1 → rst o.segment.flags ≡ 1 → left_by c o ≡ free

-- from an opening SYN g on, after every list of presentable segments of which none freed it, and at every next one
abbrev pub Demand2OfConnection : Type 0
Demand2OfConnection =
    (side : ℕ) (g : Segment) (now : ℕ) → Placeable g → g.flags ≡ SYN →
    (l : List Presented) → AllPresentable l → NoneFreed (opening_history g) l →
    (o : Presented) → Presentable o →
    Agree (connection_after (opened side g now) l) (history_after (opening_history g) l) o

-- from an opening SYN g on, as above, once the connection has been answered: 14, 15 and 0 speak of all places on the line
abbrev pub Uniqueness : Type 0
Uniqueness =
    (side : ℕ) (g : Segment) (now : ℕ) → Placeable g → g.flags ≡ SYN →
    (l : List Presented) → AllPresentable l → NoneFreed (opening_history g) l → 2 ≤ stage_of (history_after (opening_history g) l) →
    (o : Presented) → Presentable o →
    ByAllPlaces (history_after (opening_history g) l) o.sender o.segment (verdict_number (answer_to (connection_after (opened side g now) l) o))
