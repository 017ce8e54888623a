-- The decision on a matched connection (document 01, rows 13 to 15 and 0) and the connection that a pass leaves.
use Rattle.std.specs.Prelude.{ℕ, ◌+◌, Bool, ◌&&◌, ◌||◌, not, [], ◌∷◌, set, Result, Ok, Err}
use Rattle.choice.specs.Choice.{when◌then◌else◌, ◌≤ᵇ◌, ◌=ᵇ◌, ◌≠ᵇ◌}
use Rattle.serial.specs.Serial.{same_seq, seq_back}
use Rattle.segment.specs.Flags.{is_reset, ack, SYN, SYN+ACK, ACK+RST}
use Rattle.segment.specs.declared.Segment.{Segment}
use Rattle.connection.specs.Ends.{count, opener, answerer, zeros, unheard, record_of, sender, receiver, granted, begun, widened, ends_after}
use Rattle.connection.specs.Ranges.{sequence_met, ack_range, ack_met}
use Rattle.connection.specs.Stages.{life_of, fins_after, stage_after}
use Rattle.connection.specs.declared.Connection.{Connection}
use Rattle.connection.specs.declared.End.{End}
use Rattle.connection.specs.declared.SegmentError.{SegmentError}
use Rattle.connection.specs.declared.SegmentError.TheVariants.{NotAllowed, SequenceMissed, AckMissed}

-- a pass, or why a segment is blocked
abbrev pub Verdict : Type 0
Verdict = Result (Unit {0}) SegmentError

abbrev pub pass : Verdict
pass = Ok tt

abbrev pub opener_of : Connection → End
opener_of c = record_of c.ends opener

-- the same SYN again: the opener's, no ACK, s = opener end − 1
unfoldable pub same_syn : Connection → ℕ → Segment → Bool
same_syn c i g = (i =ᵇ opener) && ((g.flags =ᵇ SYN) && same_seq g.seq (seq_back (opener_of c).end (count 1)))

-- from the answerer, with a = opener end, either SYN+ACK or ACK+RST without FIN
unfoldable pub reply : Connection → ℕ → Segment → Bool
reply c i g = (i =ᵇ answerer) && (same_seq g.ack (opener_of c).end && ((g.flags =ᵇ SYN+ACK) || (g.flags =ᵇ ACK+RST)))

-- 13: stage 1, and not one of the three segments allowed there
unfoldable pub verdict_unanswered : Connection → ℕ → Segment → Verdict
verdict_unanswered c i g = when same_syn c i g || reply c i g then pass else Err NotAllowed

-- 14: sequence range missed; 15: ACK set, acknowledgement range missed
unfoldable pub verdict_by_ranges : Connection → ℕ → Segment → Verdict
verdict_by_ranges c i g =
    when not (sequence_met (sender c.ends i) (receiver c.ends i) g) then Err SequenceMissed
    else when (ack g.flags =ᵇ 1) && not (ack_met ack_range (receiver c.ends i) g) then Err AckMissed
    else pass

-- rows 13, 14, 15 and 0, for a segment of sender i
unfoldable pub verdict_on : Connection → ℕ → Segment → Verdict
verdict_on c i g = when c.stage =ᵇ 1 then verdict_unanswered c i g else verdict_by_ranges c i g

-- document 01's number of each cause
abbrev pub error_number : SegmentError → ℕ
error_number NotAllowed = 13
error_number SequenceMissed = 14
error_number AckMissed = 15

-- and of what a segment comes to: 0 for a pass, whatever it has beside it
abbrev pub verdict_number : {A : Type 0} → Result A SegmentError → ℕ
verdict_number (Ok x) = 0
verdict_number (Err e) = error_number e

-- the answer to a segment of a matched connection: 13, 14, 15 or 0
abbrev pub answer_on : Connection → ℕ → Segment → ℕ
answer_on c i g = verdict_number (verdict_on c i g)

-- What a pass leaves, now being the clock used

-- a freed connection: all zeros
abbrev pub free : Connection
free = record {
  stage = 0;
  side = 0;
  fins = 0;
  deadline = 0;
  ends = zeros ∷ zeros ∷ [];
}

-- opening SYN: stage 1, FIN bits 0; opener end = edge = s + 1, win = max(w, 1); answerer 0, 0, 1
unfoldable pub opened : ℕ → Segment → ℕ → Connection
opened side g now = record { stage = 1; side = side; fins = 0; deadline = now + life_of 1; ends = begun g ∷ unheard ∷ [] }

-- the same SYN again: of the six numbers only the opener's win may change
unfoldable pub repeated : Connection → Segment → ℕ → Connection
repeated c g now = record {
  stage = 1;
  side = c.side;
  fins = 0;
  deadline = now + life_of 1;
  ends = set c.ends opener (widened (opener_of c) g);
}

-- SYN+ACK sets the answerer's end = edge = s + 1 and win = max(w, 1), raises the opener's edge, and gives stage 2
unfoldable pub answered : Connection → Segment → ℕ → Connection
answered c g now = record {
  stage = 2;
  side = c.side;
  fins = 0;
  deadline = now + life_of 2;
  ends = granted (opener_of c) g ∷ begun g ∷ [];
}

-- from stage 2: what a pass writes, its sender's FIN bit, and the new stage with its life
unfoldable pub carried : Connection → ℕ → Segment → ℕ → Connection
carried c i g now = record {
  stage = stage_after c.stage (fins_after c.fins i g.flags) i g.flags;
  side = c.side;
  fins = fins_after c.fins i g.flags;
  deadline = now + life_of (stage_after c.stage (fins_after c.fins i g.flags) i g.flags);
  ends = ends_after c.ends i g;
}

-- from stage 2 on, a passed reset gives stage 6, and changes none of the six numbers and no FIN bit (document 02, item 6)
unfoldable pub reset : Connection → ℕ → Connection
reset c now = record {
  stage = 6;
  side = c.side;
  fins = c.fins;
  deadline = now + life_of 6;
  ends = c.ends;
}

-- a passed RST resets from stage 2 on, and still frees in stage 1; else what passed in stage 1 is the opener's same SYN again or the
-- answerer's SYN+ACK, and from stage 2 on any segment is carried
unfoldable pub passed : Connection → ℕ → Segment → ℕ → Connection
passed c i g now =
    when is_reset g.flags then (when 2 ≤ᵇ c.stage then reset c now else free)
    else when c.stage ≠ᵇ 1 then carried c i g now
    else when i =ᵇ opener then repeated c g now
    else answered c g now

-- What a segment of a matched connection comes to

-- by its verdict: what a pass leaves, or why it is blocked
abbrev pub after_verdict : Verdict → Connection → Result Connection SegmentError
after_verdict (Ok x) left = Ok left
after_verdict (Err e) left = Err e

-- the connection after a pass, or why there is none
unfoldable pub decided : Connection → ℕ → Segment → ℕ → Result Connection SegmentError
decided c i g now = after_verdict (verdict_on c i g) (passed c i g now)

-- the connection then: what a pass leaves, or else as it was
abbrev pub connection_then : Result Connection SegmentError → Connection → Connection
connection_then (Ok left) c = left
connection_then (Err e) c = c
