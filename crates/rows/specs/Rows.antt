-- Rows 11 to 15 and 0 of document 01, said once: over a view of a table, whatever its bytes, whatever the size of an address, and
-- whatever an entry keeps of its connection. The call on bytes and the theorems both cite them.
use Rattle.std.specs.Prelude.{ℕ, ◌-◌, ◌≤◌, max, ◌≡◌, ◌⊎◌, Bool, true, ◌&&◌, ◌||◌, Option, Some, None, Ok, Err}
use Rattle.choice.specs.Choice.{when◌then◌else◌, ◌<ᵇ◌, ◌≤ᵇ◌, ◌=ᵇ◌}
use Rattle.address.specs.Flows.{same_flow, reversed, no_flow}
use Rattle.address.specs.declared.Flow.{Flow}
use Rattle.segment.specs.Flags.{SYN}
use Rattle.segment.specs.declared.Segment.{Segment}
use Rattle.connection.specs.Ends.{opener, answerer}
use Rattle.connection.specs.Decision.{Verdict, error_number}
use Rattle.rows.specs.Places.{first_from}

-- What an entry keeps of its connection beside addresses and ports
pub record Bodies : Type 1 where
  pub Body : Type 0
  -- the opener's side
  pub side : Body → ℕ
  pub deadline : Body → ℕ
  -- rows 13 to 15 and 0, for a segment of the opener or the answerer
  pub verdict : Body → ℕ → Segment → Verdict
  -- what a pass of such a segment leaves, at a clock used
  pub passed : Body → ℕ → Segment → ℕ → Body
  -- what an opening from a side leaves, at a clock used
  pub opened : ℕ → Segment → ℕ → Body
  -- of a free entry, with deadline 0; and whether a pass has freed it
  pub free : Body
  pub free_deadline : deadline free ≡ 0
  pub freed : Body → Bool

-- a well-formed call: the packet's side, the clock given, addresses and ports as the packet has them, and its segment
pub record Ask : Type 0 where
  pub side : ℕ
  pub clock : ℕ
  pub key : Flow
  pub segment : Segment

-- SYN without ACK from side 0, which alone opens a connection. Flags hold FIN, SYN, RST and ACK alone, and row 10 has refused SYN with FIN or RST
abbrev pub is_opening : ℕ → Segment → Bool
is_opening side g = (side =ᵇ 0) && (g.flags =ᵇ SYN)

-- sides are 0 and 1
abbrev pub other_side : ℕ → ℕ
other_side side = 1 - side

-- "Every other answer gives place 65,535": every one but a pass and, by document 02, items 2 and 5, 5 to 10 and 16
abbrev pub nowhere : ℕ
nowhere = 65535

module _ (B : Bodies) where
  -- addresses and ports stand the opener's way round
  pub record Entry : Type 0 where
    pub key : Flow
    pub connection : B.Body

  -- a table, or the part of one that a call is on: the header's clock, the number of places, and the entry at each; what it gives past its
  -- last place no row looks at
  pub record View : Type 0 where
    pub clock : ℕ
    pub places : ℕ
    pub entry : ℕ → Entry

  -- what a call comes to: its answer, document 01's number, and its place; or a pass at a place, by the clock used, with the entry that it
  -- leaves there
  pub data Outcome : Type 0 where
    Blocked : (answer place : ℕ) → Outcome
    Passed : ℕ → ℕ → Entry → Outcome

  abbrev pub free_entry : Entry
  free_entry = record { key = no_flow; connection = B.free }

  -- Clock and search ("The table"); k is a segment's addresses and ports, `now` the clock used

  -- "Clock used: the larger of the one given and the header's."
  abbrev pub clock_used : View → Ask → ℕ
  clock_used v a = max a.clock v.clock

  -- "An entry is live if its deadline is above the clock used, else expired."
  abbrev pub live : ℕ → Entry → Bool
  live now e = now <ᵇ B.deadline e.connection

  -- "A segment matches as the opener's if its side, addresses and ports are the opener's way round,"
  unfoldable pub from_opener : Entry → ℕ → Flow → Bool
  from_opener e side k = (side =ᵇ B.side e.connection) && same_flow k e.key

  -- "as the answerer's if the side is the other one and they are reversed."
  unfoldable pub from_answerer : Entry → ℕ → Flow → Bool
  from_answerer e side k = (side =ᵇ other_side (B.side e.connection)) && same_flow (reversed k) e.key

  unfoldable pub live_match : ℕ → ℕ → Flow → Entry → Bool
  live_match now side k e = live now e && (from_opener e side k || from_answerer e side k)

  -- "The search takes the first live match from place 0 up."
  abbrev pub search : View → ℕ → ℕ → Flow → Option ℕ
  search v now side k = first_from (λ p. live_match now side k (v.entry p)) 0 v.places

  -- the live match that a call finds, if any
  abbrev pub match_of : View → Ask → Option ℕ
  match_of v a = search v (clock_used v a) a.side a.key

  -- free or expired, as a free entry's deadline is 0
  unfoldable pub vacant : ℕ → Entry → Bool
  vacant now e = B.deadline e.connection ≤ᵇ now

  -- exactly so
  abbrev pub VacantWhereFreeOrExpired : Type 0
  VacantWhereFreeOrExpired =
      (now : ℕ) (e : Entry) →
      (vacant now e ≡ true → (e ≡ free_entry) ⊎ (B.deadline e.connection ≤ now))
      × ((e ≡ free_entry) ⊎ (B.deadline e.connection ≤ now) → vacant now e ≡ true)

  -- "An opening takes the lowest place that is free or expired."
  abbrev pub lowest_vacant : View → ℕ → Option ℕ
  lowest_vacant v now = first_from (λ p. vacant now (v.entry p)) 0 v.places

  -- Rows 11, 12 and 0: no live connection matches

  -- the entry that an opening makes, with the packet's addresses and ports
  unfoldable pub opening_entry : ℕ → ℕ → Flow → Segment → Entry
  opening_entry now side k g = record { key = k; connection = B.opened side g now }

  -- 12: such a SYN, but no place is free or expired; 0: the lowest that is
  abbrev pub on_vacant : Option ℕ → ℕ → ℕ → Flow → Segment → Outcome
  on_vacant None now side k g = Blocked 12 nowhere
  on_vacant (Some p) now side k g = Passed p now (opening_entry now side k g)

  -- 11: it is not SYN without ACK from side 0
  unfoldable pub unmatched : View → ℕ → ℕ → Flow → Segment → Outcome
  unmatched v now side k g = when is_opening side g then on_vacant (lowest_vacant v now) now side k g else Blocked 11 nowhere

  -- Rows 13, 14, 15 and 0: one does

  -- the sender of a match: its side tells, as the answerer's is not the opener's
  unfoldable pub sender_of : Entry → ℕ → ℕ
  sender_of e side = when side =ᵇ B.side e.connection then opener else answerer

  -- so it is the end that the segment matches as
  abbrev pub SenderMatches : Type 0
  SenderMatches =
      (e : Entry) (side : ℕ) (k : Flow) →
      (from_opener e side k ≡ true → sender_of e side ≡ opener) × (from_answerer e side k ≡ true → sender_of e side ≡ answerer)

  -- an entry by its connection after a pass: free, addresses and ports too, if the pass has freed that
  unfoldable pub entry_with : Entry → B.Body → Entry
  entry_with e after = when B.freed after then free_entry else record { key = e.key; connection = after }

  -- what a pass leaves of an entry
  abbrev pub entry_after : Entry → ℕ → Segment → ℕ → Entry
  entry_after e i g now = entry_with e (B.passed e.connection i g now)

  -- 13, 14 and 15, or the pass
  abbrev pub by_verdict : Verdict → Outcome → Outcome
  by_verdict (Ok x) pass = pass
  by_verdict (Err e) pass = Blocked (error_number e) nowhere

  -- on the entry at place p
  unfoldable pub on_entry : Entry → ℕ → ℕ → ℕ → Segment → Outcome
  on_entry e p now side g =
      by_verdict (B.verdict e.connection (sender_of e side) g) (Passed p now (entry_after e (sender_of e side) g now))

  -- Rows 11 to 15 and 0, by the clock used

  abbrev pub on_found : Option ℕ → View → ℕ → ℕ → Flow → Segment → Outcome
  on_found None v now side k g = unmatched v now side k g
  on_found (Some p) v now side k g = on_entry (v.entry p) p now side g

  unfoldable pub on_segment : View → ℕ → ℕ → Flow → Segment → Outcome
  on_segment v now side k g = on_found (search v now side k) v now side k g

  abbrev pub filter : View → Ask → Outcome
  filter v a = on_segment v (clock_used v a) a.side a.key a.segment

  -- What an outcome gives and leaves

  abbrev pub answer_of : Outcome → ℕ
  answer_of (Blocked n place) = n
  answer_of (Passed p now e) = 0

  -- a pass changes only the header clock ("A pass stores it in the header": the clock used) and that entry; every other answer changes nothing
  abbrev pub after : View → Outcome → View
  after v (Blocked n place) = v
  after v (Passed p now e) = record { clock = now; places = v.places; entry = λ q. when q =ᵇ p then e else v.entry q }

-- a view's places have these numbers in the table; a refusal's place is its own
abbrev pub place_by : {B : Bodies} → (ℕ → ℕ) → Outcome B → ℕ
place_by number (Blocked n place) = place
place_by number (Passed p now e) = number p
