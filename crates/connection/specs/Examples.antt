-- Resets on document 01's state K, computed: what they leave in each stage, and what the next segment then leaves (document 02, item 6).
use Rattle.std.specs.Prelude.{ℕ, ◌≡◌, [], ◌∷◌, Result, Ok, Err}
use Rattle.segment.specs.Flags.{SYN, SYN+ACK, ACK, FIN+ACK, RST, ACK+RST, ACK+RST+FIN}
use Rattle.segment.specs.declared.Segment.{Segment}
use Rattle.connection.specs.Ends.{count, opener, answerer, seq_num, unheard}
use Rattle.connection.specs.Decision.{free, decided, connection_then}
use Rattle.connection.specs.declared.Connection.{Connection}
use Rattle.connection.specs.declared.End.{End}
use Rattle.connection.specs.declared.SegmentError.{SegmentError}
use Rattle.connection.specs.declared.SegmentError.TheVariants.{SequenceMissed, AckMissed}

-- end, edge and win
abbrev pub numbers : (end edge win : ℕ) → End
numbers end edge win = record { end = seq_num end; edge = seq_num edge; win = count win }

-- flags, s, n, a and w
abbrev pub segment : (flags s n a w : ℕ) → Segment
segment flags s n a w = record { seq = seq_num s; ack = seq_num a; window = count w; flags = flags; octets = count n }

-- with K's numbers, in a stage, with FIN bits and a deadline
abbrev held : (stage fins deadline : ℕ) → Connection
held stage fins deadline = record { stage = stage; side = 0; fins = fins; deadline = deadline; ends = numbers 101 2101 1000 ∷ numbers 501 501 2000 ∷ [] }

-- before the second packet of document 01's example
abbrev unanswered : Connection
unanswered = record { stage = 1; side = 0; fins = 0; deadline = 60000; ends = numbers 101 101 1000 ∷ unheard ∷ [] }

-- of each end a reset at clock 200: were it none, it would raise its sender's win and the other's edge, and the opener's its end too
abbrev by_opener : (flags : ℕ) → Connection → Result Connection SegmentError
by_opener flags c = decided c opener (segment flags 101 2000 501 65535) 200

abbrev by_answerer : (flags : ℕ) → Connection → Result Connection SegmentError
by_answerer flags c = decided c answerer (segment flags 501 0 101 65535) 200

pub record ResetsGive : Type 0 where
  -- from stage 2 on: stage 6, life 10,000 ms, none of the six numbers and no FIN bit changed; the deadline may come earlier
  pub in_2 : by_opener ACK+RST (held 2 0 60100) ≡ Ok (held 6 0 10200)
  pub in_3 : by_answerer ACK+RST (held 3 0 432000100) ≡ Ok (held 6 0 10200)
  pub in_3_with_fin : by_opener ACK+RST+FIN (held 3 0 432000100) ≡ Ok (held 6 0 10200)
  pub in_4 : by_opener ACK+RST+FIN (held 4 2 3600100) ≡ Ok (held 6 2 10200)
  pub in_4_other : by_answerer ACK+RST (held 4 1 3600100) ≡ Ok (held 6 1 10200)
  pub in_5 : by_opener ACK+RST (held 5 3 240100) ≡ Ok (held 6 3 10200)
  pub in_6 : by_opener ACK+RST+FIN (held 6 0 10100) ≡ Ok (held 6 0 10200)
  -- 14 and 15 judge it as any other segment: one octet past the edge, one past the other's end; without ACK its acknowledgement says nothing
  pub past_edge : decided (held 6 0 10200) opener (segment ACK+RST 101 2001 501 0) 300 ≡ Err SequenceMissed
  pub past_edge_then : connection_then (decided (held 6 0 10200) opener (segment ACK+RST 101 2001 501 0) 300) (held 6 0 10200) ≡ held 6 0 10200
  pub past_end : decided (held 3 0 432000100) opener (segment ACK+RST 101 0 502 0) 300 ≡ Err AckMissed
  pub past_end_then : connection_then (decided (held 3 0 432000100) opener (segment ACK+RST 101 0 502 0) 300) (held 3 0 432000100) ≡ held 3 0 432000100
  pub without_ack : decided (held 3 0 432000100) opener (segment RST 101 0 502 0) 300 ≡ Ok (held 6 0 10300)
  -- the next segment without RST returns to 5, 4 or 3 by the FIN bits, its own counted: never to 2
  pub to_3_by_syn : decided (held 6 0 10200) opener (segment SYN 100 1 0 1000) 300 ≡ Ok (held 3 0 432000300)
  pub to-3-by-SYN+ACK : decided (held 6 0 10200) answerer (segment SYN+ACK 500 1 101 2000) 300 ≡ Ok (held 3 0 432000300)
  pub to_3_by_ack : decided (held 6 0 10200) answerer (segment ACK 501 0 101 2000) 300 ≡ Ok (held 3 0 432000300)
  pub to_4 : decided (held 6 1 10200) answerer (segment ACK 501 0 101 2000) 300 ≡ Ok (held 4 1 3600300)
  pub to_4_by_fin : decided (held 6 0 10200) answerer (segment FIN+ACK 500 1 101 2000) 300 ≡ Ok (held 4 2 3600300)
  pub to_5 : decided (held 6 3 10200) answerer (segment ACK 501 0 101 2000) 300 ≡ Ok (held 5 3 240300)
  pub to_5_by_fin : decided (held 6 1 10200) answerer (segment FIN+ACK 500 1 101 2000) 300 ≡ Ok (held 5 3 240300)
  -- stage 1 still frees
  pub in_1 : decided unanswered answerer (segment ACK+RST 501 0 101 2000) 200 ≡ Ok free
