-- Demand 3 (document 01, "Honest ends"; of resets and overtaken segments document 02, items 6 and 7): "a single claim about the list of events
-- and not one for each call". Lists are newest first. Its sentences stand above what states them, in its order but for what needs another first.
use Rattle.std.specs.Prelude.{ℕ, ◌+◌, ◌≤◌, ◌<◌, max, ◌≡◌, ◌⊎◌, Bool, true, false, ◌&&◌, List, [], ◌∷◌, None}
use Rattle.choice.specs.Choice.{when◌then◌else◌, ◌<ᵇ◌, ◌=ᵇ◌}
use Rattle.segment.specs.Flags.{syn, rst, SYN, RST}
use Rattle.connection.specs.Ends.{opener}
use Rattle.connection.specs.Stages.{life_of}
use Rattle.rows.specs.Rows.{Ask, match_of, nowhere}
use Rattle.rows.specs.Connections.{connections}
use Rattle.history.specs.History.{LineSegment, on_wire, stage_of}
use Rattle.honest.specs.Machine.{Said, asks, Machine, clock_in, asks_here, brings_reset}
use Rattle.honest.specs.Rules.{Label, opening, arrival, other, IsArrivalOf, Event, send, call, delivery, Pair, side_of, key_of, Sent, Arrived, highest_ack_at_sending, Honest, overtaking_allowance, MayOvertake}

-- "An arrival is a call that brings an end's segment of this connection, its numbers modulo 2^32, with that end's side .. and a clock
-- under 2^48." (A larger clock is refused, and asks nothing)
abbrev pub bringing : Pair → LineSegment → (clock : ℕ) → Ask
bringing P p clock = record { side = side_of P p.from; clock = clock; key = key_of P p.from; segment = on_wire p }

-- what the history keeps of a reset that is no arrival: that it passed. Whoever sent it, its numbers count for nothing
abbrev pub some_reset : LineSegment
some_reset = record { from = opener; flags = RST; start = 0; length = 0; acked = 0; window = 0 }

module _ (M : Machine) where
  abbrev pub Events : Type 0
  Events = List (Event M.Call)

  -- such a call, of its end's k-th sending
  pub record Arrives (P : Pair) (k : ℕ) (p : LineSegment) (q : M.Call) (L : Events) : Type 0 where
    -- "each later than its sending"
    pub sent : Sent k p L
    pub clock : ℕ
    pub brings : M.reads q ≡ asks (bringing P p clock)

  -- What the calls tell, one after the other

  pub record Told : Type 0 where
    -- the table that the last call left
    pub state : M.State
    -- whether the opening has been, and its place
    pub opening_seen : Bool
    pub place : ℕ
    -- the segments that passed on the opening's entry, newest first
    pub history : List LineSegment
    -- "The pass clock is the largest clock given at any pass so far, 0 before the first": on this part of the table, and before the first the
    -- header's, which is 0 in a fresh table
    pub pass_clock : ℕ
    -- "the pass clock right after the latest pass on the opening's entry plus the life of the stage which that pass gave". One that frees, as a
    -- reset does in stage 1, gives no stage and so no life
    pub until : ℕ

  unfoldable pub passes : Told → M.Call → Bool
  passes t q = (M.run t.state q).answer =ᵇ 0

  -- "the larger of this call's clock and the pass clock"
  abbrev pub larger_clock : Told → M.Call → ℕ
  larger_clock t q = max (clock_in (M.reads q)) t.pass_clock

  -- the pass clock after a call; one on another part of the table does not move it, as `clock_in` is 0 for it
  abbrev pub next_clock : Told → M.Call → ℕ
  next_clock t q = when passes t q then larger_clock t q else t.pass_clock

  -- after a call that, where it passes, counts as passed on the opening's entry with p: the opening, an arrival, or a reset. The place of an
  -- arrival is not looked at: on a legal list it is the opening's, by the claim for the shorter list
  abbrev pub after_segment : Told → M.Call → ℕ → LineSegment → Told
  after_segment t q place p = record {
    state = (M.run t.state q).next;
    opening_seen = true;
    place = place;
    history = when passes t q then p ∷ t.history else t.history;
    pass_clock = next_clock t q;
    until = when passes t q then next_clock t q + life_of (stage_of (p ∷ t.history)) else t.until;
  }

  -- live at a call, "told from the calls: the larger of this call's clock and the pass clock is under" `until`
  abbrev pub Live : Told → M.Call → Type 0
  Live t q = larger_clock t q < t.until

  -- whether a call is "passed on the opening's entry", by its place: after the opening, as long as that entry is live, since once it has
  -- expired or been freed its place may be another's; and not on another part of the table, whatever its place there
  unfoldable pub passed_on_ours : Told → M.Call → Bool
  passed_on_ours t q =
      t.opening_seen
      && ((larger_clock t q <ᵇ t.until)
      && (asks_here (M.reads q) && (passes t q && ((M.run t.state q).place =ᵇ t.place))))

  -- after any other call. On a legal list it leaves the opening's entry as it is
  abbrev pub after_elsewhere : Told → M.Call → Told
  after_elsewhere t q = record {
    state = (M.run t.state q).next;
    opening_seen = t.opening_seen;
    place = t.place;
    history = t.history;
    pass_clock = next_clock t q;
    until = t.until;
  }

  unfoldable pub after_call : Told → M.Call → Label → Told
  after_call t q (opening k p) = after_segment t q (M.run t.state q).place p
  after_call t q (arrival k p) = after_segment t q t.place p
  after_call t q other =
      when passed_on_ours t q && brings_reset (M.reads q) then after_segment t q t.place some_reset
      else after_elsewhere t q

  module _ (s₀ : M.State) where
    -- "A gate call, whatever its answer, is lent the table that the last one left."
    unfoldable pub told : Events → Told
    told [] = record { state = s₀; opening_seen = false; place = nowhere; history = []; pass_clock = (M.view s₀).clock; until = 0 }
    told (send p ∷ L) = told L
    told (call q l ∷ L) = after_call (told L) q l
    told (delivery k p ∷ L) = told L

    abbrev pub said : Events → M.Call → Said M.State
    said L q = M.run (told L).state q

  -- "Asked of the list:"

  -- "Each end's arrivals are its sendings in order, .. some left out, some several times in a row.", or after being overtaken (document 02, item
  -- 7): "every segment without RST of its sender that was sent later but arrived earlier" than p, its k-th, may overtake it. In order is the case
  -- in which there is none
  abbrev pub InOrderOrOvertaken : (allowance k : ℕ) (p : LineSegment) → Events → Type 0
  InOrderOrOvertaken allowance k p L =
      (j : ℕ) (g : LineSegment) → Arrived j g L → g.from ≡ p.from → rst g.flags ≡ 0 → k < j →
      MayOvertake allowance (highest_ack_at_sending g.from j L) g p

  module _ (s₀ : M.State) (P : Pair) where
    -- "The opening is an arrival of the opener's SYN that finds no live match and is answered 0." The list names one
    pub record Opening (k : ℕ) (p : LineSegment) (q : M.Call) (L : Events) : Type 0 where
      pub first_one : (told s₀ L).opening_seen ≡ false
      pub arrives : Arrives P k p q L
      pub by_opener : p.from ≡ opener
      pub is_syn : p.flags ≡ SYN
      pub finds_none : match_of connections (M.view (told s₀ L).state) (bringing P p arrives.clock) ≡ None
      pub answered_0 : passes (told s₀ L) q ≡ true

  module _ (s₀ : M.State) where
    -- "an arrival of it, the opening or a later one, was answered 0": of an end's k-th sending, p
    abbrev pub WasPassed : ℕ → LineSegment → Events → Type 0
    WasPassed k p [] = ⊥
    WasPassed k p (send g ∷ L) = WasPassed k p L
    WasPassed k p (call q l ∷ L) = (IsArrivalOf l k p × (passes (told s₀ L) q ≡ true)) ⊎ WasPassed k p L
    WasPassed k p (delivery j g ∷ L) = WasPassed k p L

  module _ (s₀ : M.State) (P : Pair) where
    -- an arrival after it: in order or overtaken, by an allowance, and "At each arrival after the opening the connection is live, told from the calls"
    pub record Arrival (allowance k : ℕ) (p : LineSegment) (q : M.Call) (L : Events) : Type 0 where
      pub after_opening : (told s₀ L).opening_seen ≡ true
      pub arrives : Arrives P k p q L
      -- resets may come in any order
      pub order : rst p.flags ≡ 0 → InOrderOrOvertaken allowance k p L
      pub live : Live (told s₀ L) q
      -- "Demand 3 now allows resets .. that themselves pass" (document 02, item 6); a call with one that doesn't pass counts as any other call.
      -- From stage 2 on it gives stage 6; in stage 1 it frees, and no arrival is live after it (`until`)
      pub reset_passes : rst p.flags ≡ 1 → passes (told s₀ L) q ≡ true

    abbrev pub FairCall : Label → M.Call → Events → Type 0
    FairCall (opening k p) q L = Opening s₀ P k p q L
    FairCall (arrival k p) q L = Arrival overtaking_allowance k p q L
    -- "After the opening, a call that is no arrival may give anything, but isn't passed on the opening's entry", unless it brings a reset,
    -- whoever sent that: from stage 2 on it gives stage 6; in stage 1 it frees, and no arrival is live after it (`until`)
    FairCall other q L = passed_on_ours (told s₀ L) q ≡ true → brings_reset (M.reads q) ≡ true

    abbrev pub Fair : Event M.Call → Events → Type 0
    -- "A sending keeps the rules above by what was delivered before it."
    Fair (send p) L = Honest P p L
    Fair (call q l) L = FairCall l q L
    -- "A segment is delivered only after an arrival of it, the opening or a later one, was answered 0: never, once or often, in any order."
    Fair (delivery k p) L = WasPassed s₀ k p L

    -- all of this of each event, by those before it
    abbrev pub Legal : Events → Type 0
    Legal [] = Unit {0}
    Legal (x ∷ L) = Fair x L × Legal L

  -- The claim

  -- "Then each arrival after the opening has answer 0 and the same table place as the opening."
  abbrev pub NeverBlocked : M.State → Events → Type 0
  NeverBlocked s₀ [] = Unit {0}
  NeverBlocked s₀ (send p ∷ L) = NeverBlocked s₀ L
  NeverBlocked s₀ (call q (opening k p) ∷ L) = NeverBlocked s₀ L
  NeverBlocked s₀ (call q (arrival k p) ∷ L) = ((said s₀ L q).answer ≡ 0) × ((said s₀ L q).place ≡ (told s₀ L).place) × NeverBlocked s₀ L
  NeverBlocked s₀ (call q other ∷ L) = NeverBlocked s₀ L
  NeverBlocked s₀ (delivery k p ∷ L) = NeverBlocked s₀ L

-- Demand 3 of a machine: from every sound state, for every pair and every legal list
abbrev pub Demand3 : (M : Machine) → (M.State → Type 0) → Type 0
Demand3 M Sound =
    (s₀ : M.State) → Sound s₀ → (P : Pair) → P.side ≤ 1 → (L : List (Event M.Call)) →
    Legal M s₀ P L → NeverBlocked M s₀ L

-- The same in document 02's own words, which ask for more: of resets only the ends' pass on the entry, sent "from stage 2 on", and neither they
-- nor SYNs come after being overtaken

module _ (M : Machine) (s₀ : M.State) (P : Pair) where
  pub record ArrivalAsWritten (k : ℕ) (p : LineSegment) (q : M.Call) (L : Events M) : Type 0 where
    pub after_opening : (told M s₀ L).opening_seen ≡ true
    pub arrives : Arrives M P k p q L
    -- "an honest segment, neither SYN nor reset, may also arrive, first or again, after being overtaken, if .." "No other arrival is out of order."
    pub order : InOrderOrOvertaken M overtaking_allowance k p L
    pub neither_syn_nor_reset :
        (j : ℕ) (g : LineSegment) → Arrived j g L → g.from ≡ p.from → k < j → (syn p.flags ≡ 0) × (rst p.flags ≡ 0)
    pub live : Live M (told M s₀ L) q
    -- "that themselves pass"
    pub reset_passes : rst p.flags ≡ 1 → passes M (told M s₀ L) q ≡ true

  abbrev pub FairAsWritten : Event M.Call → Events M → Type 0
  -- "resets sent from stage 2 on"
  FairAsWritten (send p) L = Honest P p L × (rst p.flags ≡ 1 → 2 ≤ stage_of (told M s₀ L).history)
  FairAsWritten (call q (opening k p)) L = Opening M s₀ P k p q L
  FairAsWritten (call q (arrival k p)) L = ArrivalAsWritten k p q L
  FairAsWritten (call q other) L = passed_on_ours M (told M s₀ L) q ≡ true → ⊥
  FairAsWritten (delivery k p) L = WasPassed M s₀ k p L

  abbrev pub LegalAsWritten : Events M → Type 0
  LegalAsWritten [] = Unit {0}
  LegalAsWritten (x ∷ L) = FairAsWritten x L × LegalAsWritten L

abbrev pub Demand3AsWritten : (M : Machine) → (M.State → Type 0) → Type 0
Demand3AsWritten M Sound =
    (s₀ : M.State) → Sound s₀ → (P : Pair) → P.side ≤ 1 → (L : List (Event M.Call)) →
    LegalAsWritten M s₀ P L → NeverBlocked M s₀ L
