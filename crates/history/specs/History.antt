-- A history: the segments that passed on one connection, on the unwrapped line, newest first. The last is the opening SYN.
-- Its numbers, its window, bounds I to IV and the order of 13, 14 and 15 are its own. Shared with `connection` by definition are segments and
-- their flags, the two ends, the verdicts with their numbers, the ring of 2^32 with the nearest place on the line (on which `further` rests), the
-- constants 66,000 and 65,535, and, as the bounds say nothing of them, the FIN bits and the stage after a segment from stage 2 on (`fins_after`,
-- `stage_after`), a stage's life (`life_of`) and a freed record (`zeros`); over tables, all of `rows` but the verdict and what a pass leaves.
use Rattle.std.specs.Prelude.{ℕ, ◌+◌, ◌^◌, ◌<◌, ◌≤◌, max, ◌≡◌, Bool, ◌&&◌, ◌||◌, not, List, [], ◌∷◌, Err}
use Rattle.choice.specs.Choice.{when◌then◌else◌, ◌≤ᵇ◌, ◌=ᵇ◌, ◌≠ᵇ◌}
use Rattle.serial.specs.Ring.{nearest}
use Rattle.serial.specs.Serial.{seq_at}
use Rattle.segment.specs.Flags.{syn, is_reset, ack, SYN, SYN+ACK, ACK+RST}
use Rattle.segment.specs.declared.Segment.{Segment}
use Rattle.connection.specs.Ends.{count, opener, answerer, other_end}
use Rattle.connection.specs.Decision.{Verdict, pass}
use Rattle.connection.specs.Ranges.{ack_range, widest}
use Rattle.connection.specs.Stages.{fins_after, stage_after}
use Rattle.connection.specs.declared.Connection.{Connection}
use Rattle.connection.specs.declared.SegmentError.TheVariants.{NotAllowed, SequenceMissed, AckMissed}
use Rattle.history.specs.Numbers.{Numbers, on_ring, bounds_i_ii, bounds_iii_iv}

-- a segment whose numbers are places on the line; it is from the opener or the answerer
pub record LineSegment : Type 0 where
  pub from : ℕ
  pub flags : ℕ
  pub start : ℕ
  -- n: payload octets plus one each for SYN and FIN
  pub length : ℕ
  pub acked : ℕ
  pub window : ℕ

-- the segment as the wire has it
abbrev pub on_wire : LineSegment → Segment
on_wire g = record { seq = seq_at g.start; ack = seq_at g.acked; window = count g.window; flags = g.flags; octets = count g.length }

-- The six numbers: maxima over the history, in which a reset counts for nothing

-- the end of i's segment
abbrev pub end_by : ℕ → LineSegment → ℕ
end_by i g = when (g.from =ᵇ i) && not (is_reset g.flags) then g.start + g.length else 0

-- the right edge that i gets by it: a + max(w, 1) of the other end's, or the end of its own SYN, with which it begins (a later
-- SYN's end counts too, and bound I keeps it at or below the edge)
abbrev pub edge_by : ℕ → LineSegment → ℕ
edge_by i g =
    when is_reset g.flags then 0
    else when g.from =ᵇ i then (when syn g.flags =ᵇ 1 then g.start + g.length else 0)
    else when ack g.flags =ᵇ 1 then g.acked + max g.window 1
    else 0

abbrev pub window_by : ℕ → LineSegment → ℕ
window_by i g = when (g.from =ᵇ i) && not (is_reset g.flags) then g.window else 0

-- highest end, highest edge and largest window; 0, 0, 1 over no segment
unfoldable pub numbers_of : ℕ → List LineSegment → Numbers
numbers_of i [] = record { end = 0; edge = 0; win = 1 }
numbers_of i (g ∷ h) = record {
  end = max (numbers_of i h).end (end_by i g);
  edge = max (numbers_of i h).edge (edge_by i g);
  win = max (numbers_of i h).win (window_by i g);
}

-- FIN bits and stage, by the rules under "Stages"; a reset stays in the history for the stage alone (document 02, item 6)

unfoldable pub fins_of : List LineSegment → ℕ
fins_of [] = 0
fins_of (g ∷ h) = when is_reset g.flags then fins_of h else fins_after (fins_of h) g.from g.flags

-- 0 before the opening and once freed: a passed reset gives stage 6 from stage 2 on, and frees in stage 1
unfoldable pub stage_of : List LineSegment → ℕ
stage_of [] = 0
stage_of (g ∷ h) =
    when is_reset g.flags then (when 2 ≤ᵇ stage_of h then 6 else 0)
    else when stage_of h =ᵇ 0 then 1
    else when stage_of h ≠ᵇ 1 then stage_after (stage_of h) (fins_of (g ∷ h)) g.from g.flags
    else when g.from =ᵇ opener then 1
    else 2

-- The next segment

-- the place on the line of sequence number s, for an end whose highest end so far is E: the whole number nearest to E that has
-- it. E = 0 says that nothing of this end has passed (a real E is above 2^32); its first number may stand anywhere and is put
-- at s + 2^32, so that nothing falls below zero
abbrev pub stands_by : ℕ → ℕ → ℕ
stands_by E s = when E =ᵇ 0 then s + 2 ^ 32 else nearest E s

-- a segment of sender i, on the line beside the sender's end at E and the other end's at E'
abbrev pub placed_by : ℕ → ℕ → ℕ → Segment → LineSegment
placed_by E E' i g = record {
  from = i;
  flags = g.flags;
  start = stands_by E g.seq.0;
  length = g.octets.0;
  acked = stands_by E' g.ack.0;
  window = g.window.0;
}

abbrev pub placed : List LineSegment → ℕ → Segment → LineSegment
placed h i g = placed_by (numbers_of i h).end (numbers_of (other_end i) h).end i g

-- the same SYN again: the opener's, no ACK, s = opener end − 1
unfoldable pub same_syn_on_line : List LineSegment → LineSegment → Bool
same_syn_on_line h p = (p.from =ᵇ opener) && ((p.flags =ᵇ SYN) && (p.start + 1 =ᵇ (numbers_of opener h).end))

-- from the answerer, with a = opener end, either SYN+ACK or ACK+RST without FIN
unfoldable pub reply_on_line : List LineSegment → LineSegment → Bool
reply_on_line h p = (p.from =ᵇ answerer) && ((p.acked =ᵇ (numbers_of opener h).end) && ((p.flags =ᵇ SYN+ACK) || (p.flags =ᵇ ACK+RST)))

-- stage 1's three segments, on the line
unfoldable pub judge_unanswered : List LineSegment → LineSegment → Verdict
judge_unanswered h p = when same_syn_on_line h p || reply_on_line h p then pass else Err NotAllowed

-- in stage 1 only the three segments pass; from stage 2 on, what bounds I to IV give over the history's numbers
unfoldable pub judge : List LineSegment → LineSegment → Verdict
judge h p =
    when stage_of h =ᵇ 1 then judge_unanswered h p
    else when not (bounds_i_ii (numbers_of p.from h) (numbers_of (other_end p.from) h) p.start p.length) then Err SequenceMissed
    else when (ack p.flags =ᵇ 1) && not (bounds_iii_iv ack_range (numbers_of (other_end p.from) h) p.acked) then Err AckMissed
    else pass

-- The connection holds exactly those numbers modulo 2^32, and the FIN bits and stage of the history
pub record Holds (c : Connection) (h : List LineSegment) : Type 0 where
  pub stage : c.stage ≡ stage_of h
  pub fins : c.fins ≡ fins_of h
  pub ends : c.ends ≡ on_ring (numbers_of opener h) ∷ on_ring (numbers_of answerer h) ∷ []

-- well formed: a 16-bit window, and a SYN alone, without payload
pub record Formed (p : LineSegment) : Type 0 where
  pub window_fits : p.window ≤ widest
  pub syn_alone : syn p.flags ≡ 1 → p.length ≡ 1

-- fit for a place on the line: 32-bit numbers, a 16-bit window, and a SYN alone, without payload. Every segment that the packet
-- reader gives is (`readable-placeable`)
pub record Placeable (g : Segment) : Type 0 where
  pub seq_fits : g.seq.0 < 2 ^ 32
  pub ack_fits : g.ack.0 < 2 ^ 32
  pub window_fits : g.window.0 ≤ widest
  pub syn_alone : syn g.flags ≡ 1 → g.octets.0 ≡ 1
