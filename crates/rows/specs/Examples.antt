-- Tables of three places: a call for each row, and what passes leave there.
use Rattle.std.specs.Prelude.{ℕ, zero, suc, ◌+◌, ◌≡◌, [], ◌∷◌, Some, None}
use Rattle.address.specs.Flows.{dotted, endpoint, between, reversed, no_flow}
use Rattle.address.specs.declared.Flow.{Flow}
use Rattle.segment.specs.Flags.{SYN, ACK, ACK+RST}
use Rattle.connection.specs.Decision.{free}
use Rattle.connection.specs.Examples.{numbers, segment}
use Rattle.connection.specs.declared.Connection.{Connection}
use Rattle.connection.specs.declared.End.{End}
use Rattle.rows.specs.Rows.{Ask, Entry, View, match_of, filter, answer_of, after, place_by}
use Rattle.rows.specs.Connections.{connections}

-- Tables

-- from 10.0.0.1 port 1024 to 10.0.0.2 port 80
abbrev pub outward : Flow
outward = between (endpoint (dotted 10 0 0 1) 1024) (endpoint (dotted 10 0 0 2) 80)

-- of no entry
abbrev stranger : Flow
stranger = between (endpoint (dotted 10 0 0 3) 1024) (endpoint (dotted 10 0 0 2) 80)

abbrev connection : (side stage deadline : ℕ) (opener answerer : End) → Connection
connection side stage deadline opener answerer = record { stage = stage; side = side; fins = 0; deadline = deadline; ends = opener ∷ answerer ∷ [] }

-- document 01's example after its first packet; and with the numbers of its state K, in stage 3, opened on a side
abbrev unanswered : (deadline : ℕ) → Connection
unanswered deadline = connection 0 1 deadline (numbers 101 101 1000) (numbers 0 0 1)

abbrev established : (side deadline : ℕ) → Connection
established side deadline = connection side 3 deadline (numbers 101 2101 1000) (numbers 501 501 2000)

abbrev entry : Flow → Connection → Entry connections
entry k c = record { key = k; connection = c }

abbrev three : (e f g : Entry connections) → ℕ → Entry connections
three e f g zero = e
three e f g (suc zero) = f
three e f g (suc (suc p)) = g

abbrev table : (e f g : Entry connections) → View connections
table e f g = record { clock = 90; places = 3; entry = three e f g }

-- all three match the same segments; at clock 100 the first has expired
abbrev busy : View connections
busy = table (entry outward (established 0 100)) (entry outward (established 0 101)) (entry outward (established 0 101))

-- expired by the header's clock
abbrev stale : View connections
stale = table (entry outward (established 0 85)) (entry outward (established 0 85)) (entry outward (established 0 90))

-- opened on side 1
abbrev turned : View connections
turned = table (entry outward (established 1 101)) (entry outward (established 1 101)) (entry outward (established 1 101))

-- at clock 100 no place is free or expired
abbrev full : View connections
full = table (entry outward (unanswered 101)) (entry outward (unanswered 101)) (entry outward (unanswered 101))

-- Calls

-- by side, clock, addresses and ports; flags, s, n, a and w
abbrev call : (side clock : ℕ) → Flow → (flags s n a w : ℕ) → Ask
call side clock k flags s n a w = record { side = side; clock = clock; key = k; segment = segment flags s n a w }

-- a SYN that matches nothing; and on the example's connection ten octets of the opener's, and a wider window of the answerer's
abbrev strangers_syn : Ask
strangers_syn = call 0 100 stranger SYN 7 1 0 1000

abbrev ten_octets : (clock : ℕ) → Ask
ten_octets clock = call 0 clock outward ACK 101 10 501 1000

abbrev wider : Ask
wider = call 1 100 (reversed outward) ACK 501 0 101 3000

abbrev answer : View connections → Ask → ℕ
answer v a = answer_of connections (filter connections v a)

-- as if this were the part of a table from its place 20 on
abbrev place : View connections → Ask → ℕ
place v a = place_by (λ p. 20 + p) (filter connections v a)

abbrev left : View connections → Ask → View connections
left v a = after connections v (filter connections v a)

-- The claims

pub record RowsGive : Type 0 where
  -- the first live match from place 0 up, by the clock used
  pub match_first : match_of connections busy (ten_octets 100) ≡ Some 1
  pub match_expired : match_of connections busy (ten_octets 101) ≡ None
  pub match_header_clock : match_of connections stale (ten_octets 80) ≡ None
  -- 11, also where the table is full: no live connection matches, and it is not SYN without ACK from side 0
  pub row_11_flags : answer full (call 0 100 stranger ACK 7 1 0 1000) ≡ 11
  pub row_11_side : answer full (call 1 100 stranger SYN 7 1 0 1000) ≡ 11
  pub row_11_expired : answer busy (ten_octets 101) ≡ 11
  pub row_11_not_reversed : answer busy (call 1 100 outward ACK 501 0 101 3000) ≡ 11
  pub row_11_turned : answer turned (ten_octets 100) ≡ 11
  -- 12: such a SYN, but no place is free or expired
  pub row_12 : answer full strangers_syn ≡ 12
  -- 13: matched connection in stage 1, and not one of the three segments allowed there
  pub row_13 : answer full (ten_octets 100) ≡ 13
  -- 14: stage 2 or later, sequence range missed; 15: ACK set, acknowledgement range missed
  pub row_14 : answer busy (call 0 100 outward ACK 101 2001 501 1000) ≡ 14
  pub row_15 : answer busy (call 0 100 outward ACK 101 0 502 1000) ≡ 15
  -- 0: passed, of the opener and of the answerer, on the first live match; or an opening, at the lowest place that is free or expired
  pub row_0_opener : answer busy (ten_octets 100) ≡ 0
  pub row_0_answerer : answer busy wider ≡ 0
  pub row_0_turned : answer turned (call 1 100 outward ACK 101 10 501 1000) ≡ 0
  pub row_0_opening : answer busy strangers_syn ≡ 0
  pub place_found : place busy (ten_octets 100) ≡ 21
  pub place_taken : place busy strangers_syn ≡ 20
  -- every refusal of these rows gives place 65,535
  pub place_none : place full strangers_syn ≡ 65535
  -- and changes nothing, the clock neither
  pub left_blocked : left full strangers_syn ≡ full
  -- a pass changes only the header clock and that entry: deadline = clock used + life of the new stage
  pub left_clock : (left busy (ten_octets 100)).clock ≡ 100
  pub left_places : (left busy (ten_octets 100)).places ≡ 3
  pub left_opener : (left busy (ten_octets 100)).entry 1 ≡ entry outward (connection 0 3 432000100 (numbers 111 2101 1000) (numbers 501 1501 2000))
  pub left_answerer : (left busy wider).entry 1 ≡ entry outward (connection 0 3 432000100 (numbers 101 3101 1000) (numbers 501 501 3000))
  pub left_before : (left busy (ten_octets 100)).entry 0 ≡ busy.entry 0
  pub left_after : (left busy (ten_octets 100)).entry 2 ≡ busy.entry 2
  -- clock used: the larger of the one given and the header's, 90
  pub set_back_clock : (left busy (ten_octets 80)).clock ≡ 90
  pub set_back_entry : (left busy (ten_octets 80)).entry 0 ≡ entry outward (connection 0 3 432000090 (numbers 111 2101 1000) (numbers 501 1501 2000))
  -- opening SYN: stage 1; what a pass frees is free, addresses and ports too: the answerer's ACK+RST in stage 1
  pub left_opening : (left busy strangers_syn).entry 0 ≡ entry stranger (connection 0 1 60100 (numbers 8 8 1000) (numbers 0 0 1))
  pub left_freed : (left full (call 1 100 (reversed outward) ACK+RST 501 0 101 1000)).entry 0 ≡ entry no_flow free
  -- a reset from stage 2 on leaves stage 6 and every number, its own ten octets and wider window uncounted
  pub left_reset : (left busy (call 0 100 outward ACK+RST 101 10 501 3000)).entry 1 ≡ entry outward (connection 0 6 10100 (numbers 101 2101 1000) (numbers 501 501 2000))
