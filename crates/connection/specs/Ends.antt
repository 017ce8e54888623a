-- The two records of a connection and what a pass writes into them (document 01, "Ranges").
use Rattle.std.specs.Prelude.{ℕ, ◌-◌, List, get_or, set}
use Rattle.choice.specs.Choice.{when◌then◌else◌, ◌=ᵇ◌}
use Rattle.serial.specs.Serial.{seq_plus, further, larger}
use Rattle.serial.specs.declared.SeqNum.{SeqNum}
use Rattle.serial.specs.declared.OctetCount.{OctetCount}
use Rattle.segment.specs.Flags.{ack}
use Rattle.segment.specs.declared.Segment.{Segment}
use Rattle.connection.specs.declared.End.{End}
use Rattle.connection.specs.declared.Sender.{Sender}
use Rattle.connection.specs.declared.Sender.TheVariants.{Opener, Answerer}

abbrev pub count : ℕ → OctetCount
count n = record { 0 = n }

abbrev pub seq_num : ℕ → SeqNum
seq_num s = record { 0 = s }

-- The two ends, and the other one of them

abbrev pub opener : ℕ
opener = 0

abbrev pub answerer : ℕ
answerer = 1

abbrev pub other_end : ℕ → ℕ
other_end i = 1 - i

-- the number of the end that sends
abbrev pub end_of : Sender → ℕ
end_of Opener = opener
end_of Answerer = answerer

-- Their records

-- an end that has shown nothing: 0, 0, 1
abbrev pub unheard : End
unheard = record { end = seq_num 0; edge = seq_num 0; win = count 1 }

-- a freed record, and what stands past the array's end
abbrev pub zeros : End
zeros = record { end = seq_num 0; edge = seq_num 0; win = count 0 }

-- an end's record
abbrev pub record_of : List End → ℕ → End
record_of ends i = get_or ends i zeros

-- F, the record of the end that sends
abbrev pub sender : List End → ℕ → End
sender ends i = record_of ends i

-- T, the other end's, to which it sends
abbrev pub receiver : List End → ℕ → End
receiver ends i = record_of ends (other_end i)

-- w, as it counts: unscaled today
abbrev pub effective_window : Segment → OctetCount
effective_window g = g.window

-- s + n
abbrev pub segment_end : Segment → SeqNum
segment_end g = seq_plus g.seq g.octets

-- a + max(w, 1)
abbrev pub right_edge : Segment → SeqNum
right_edge g = seq_plus g.ack (larger (effective_window g) (count 1))

-- F.end becomes the further of F.end and s + n; F.win the larger of F.win and w
unfoldable pub sent : End → Segment → End
sent F g = record {
  end = further F.end F.end (segment_end g);
  edge = F.edge;
  win = larger F.win (effective_window g);
}

-- the same SYN again makes win the larger of win and w and touches no other number
abbrev pub widened : End → Segment → End
widened F g = record { end = F.end; edge = F.edge; win = larger F.win (effective_window g) }

-- T.edge becomes the further of T.edge and a + max(w, 1)
unfoldable pub granted : End → Segment → End
granted T g = record { end = T.end; edge = further T.end T.edge (right_edge g); win = T.win }

-- both after a pass of sender i, from stage 2 on; without ACK, T is untouched
unfoldable pub ends_after : List End → ℕ → Segment → List End
ends_after ends i g =
    when ack g.flags =ᵇ 1 then set (set ends i (sent (sender ends i) g)) (other_end i) (granted (receiver ends i) g)
    else set ends i (sent (sender ends i) g)

-- an end that its SYN begins: end = edge = s + 1, win = max(w, 1)
abbrev pub begun : Segment → End
begun g = record {
  end = seq_plus g.seq (count 1);
  edge = seq_plus g.seq (count 1);
  win = larger (effective_window g) (count 1);
}
