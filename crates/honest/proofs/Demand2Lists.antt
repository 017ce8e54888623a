-- Demand 2 over lists of calls: the table's answers, places and entries are those of the histories.
use Prim.Native.Nat.{ℕ, ◌+◌, ◌<◌, ◌≤◌}
use mathlib.Core.Path.{◌≡◌, refl, sym, ap, subst, ◌∙◌}
use mathlib.Core.Logic.{◌⊎◌, inl, inr, ⊎_elim}
use mathlib.Core.Bool.{Bool, true, false, ◌&&◌}
use mathlib.Core.List.{List, [], ◌∷◌}
use native.Mathlib.Omega.{arith}
use borrow.Author.Tests.{eq-eqb, eqb-true, eqb-false}
use Rattle.std.specs.Prelude.{None, Option, Some}
use Rattle.choice.specs.Choice.{◌=ᵇ◌}
use Rattle.choice.proofs.Choice.{when-both}
use Rattle.choice.proofs.Tests.{true-&&, &&-true, true-or-false, false-true}
use Rattle.address.specs.declared.Flow.{Flow}
use Rattle.segment.specs.Flags.{rst, is_reset, SYN}
use Rattle.segment.specs.declared.Segment.{Segment}
use Rattle.connection.specs.Stages.{life_of}
use Rattle.connection.specs.Decision.{pass, verdict_on, verdict_number, passed, opened}
use Rattle.connection.specs.declared.Connection.{Connection}
use Rattle.rows.specs.Rows as rows
use Rattle.rows.specs.Rows.{Ask, is_opening, Entry, View, free_entry, clock_used, sender_of, entry_with, entry_after, opening_entry, filter, answer_of}
use Rattle.rows.specs.Connections.{connections}
use Rattle.rows.proofs.Rows.{sender_known, on_segment-by-search, on_entry-by-verdict, unmatched-answer, answer-by-verdict, found-live}
use Rattle.history.specs.Numbers.{on_ring}
use Rattle.history.specs.History.{LineSegment, numbers_of, fins_of, stage_of, placed, judge, Holds, Placeable}
use Rattle.history.proofs.Pass.{reset-freed}
use Rattle.history.proofs.Demand2.{Reached, unanswered, answered, judged, pass-holds, reset-frees, holds-first, reached-first}
use Rattle.history.proofs.Places.{from-stage-2, by-all-places}
use Rattle.honest.specs.Histories.{History, grown, histories, records_of, connection_of}
use Rattle.honest.specs.Demand2.{fresh, view_after, AllPlaceable, FoundFromStage2, AnswersByAllPlaces, Demand2}
use Rattle.honest.proofs.Arrival.{passed-renewed}
use Rattle.honest.proofs.Simulation.{Agreeing, Related, Alike, answer-alike, place-alike, after-alike, filter_same}

never : {A : Type 0} → Reached [] → A
unfolding numbers_of
never (unanswered u turned) = absurd (omega (arith, turned))
never (answered a turned) = absurd (omega (arith, turned 0 (omega arith)))

-- a history that was reached is not empty, and what the table has for it holds it
reached-holds : (h : History) → Reached h.segments → Holds (connection_of h) h.segments
reached-holds h r = record { stage = refl; fins = refl; ends = go h.segments r }
  where
    go : (l : List LineSegment) → Reached l → records_of l ≡ on_ring (numbers_of 0 l) ∷ on_ring (numbers_of 1 l) ∷ []
    go [] none = never none
    go (p ∷ l) some = refl

abbrev entry_of : Entry histories → Entry connections
entry_of f = record { key = f.key; connection = connection_of f.connection }

-- an entry has the numbers of a history, and that of a live one was reached
record Stands (e : Entry connections) (f : Entry histories) : Type 0 where
  is : e ≡ entry_of f
  reached : 0 < f.connection.deadline → Reached f.connection.segments

-- from what it holds
stands_by :
    (k : Flow) (c : Connection) (h : History) → c.side ≡ h.side → c.deadline ≡ h.deadline → Holds c h.segments →
    Reached h.segments → Stands (record { key = k; connection = c }) (record { key = k; connection = h })
stands_by k c h side deadline holds reached =
    let ends = holds.ends ∙ sym (reached-holds h reached).ends in
    record {
      is = λ i. record {
        key = k;
        connection = record { stage = holds.stage i; side = side i; fins = holds.fins i; deadline = deadline i; ends = ends i };
      };
      reached = λ _. reached;
    }

-- an opening
made-stands :
    (now side : ℕ) (k : Flow) (g : Segment) → Placeable g → is_opening side g ≡ true →
    Stands (opening_entry connections now side k g) (opening_entry histories now side k g)
unfolding opening_entry opened
made-stands now side k g placeable opening =
    let a-syn : g.flags ≡ SYN = eqb-true _ _ (&&-true (side =ᵇ 0) (g.flags =ᵇ SYN) opening).1 in
    let holds = holds-first side g now placeable a-syn in
    stands_by k _ _ refl (ap (λ (s : ℕ). now + life_of s) holds.stage) holds (reached-first side g now placeable a-syn)

free-stands : Stands (free_entry connections) (free_entry histories)
unfolding stage_of fins_of
free-stands = record { is = refl; reached = λ Live-now. absurd (omega arith) }

-- a pass on a live entry
module _
    {e : Entry connections} {f : Entry histories} (i : ℕ) (g : Segment) (r : Stands e f)
    (Live-now : 0 < e.connection.deadline) (known : i < 2) (placeable : Placeable g) where
  abbrev c : Connection
  c = e.connection

  abbrev h : List LineSegment
  h = f.connection.segments

  -- what the pass leaves of both
  abbrev after-c : ℕ → Entry connections
  after-c now = record { key = e.key; connection = passed c i g now }

  abbrev after-h : ℕ → Entry histories
  after-h now = record { key = f.key; connection = grown f.connection.side (placed h i g ∷ h) now }

  reached : Reached h
  reached = r.reached (omega (arith, ap (λ (x : Entry connections). x.connection.deadline) r.is))

  holds : Holds c h
  holds = subst (λ (x : Entry connections). Holds x.connection h) (sym r.is) (reached-holds f.connection reached)

  verdict-same : verdict_on c i g ≡ judge h (placed h i g)
  verdict-same = judged c h holds reached (record { sender = i; segment = g; now = 0 }) record { sender_known = known; placeable = placeable }

  passed-stands : (now : ℕ) → verdict_on c i g ≡ pass → (rst g.flags ≡ 1 → 2 ≤ c.stage) → Stands (after-c now) (after-h now)
  passed-stands now passes kept =
      let after =
      pass-holds c h holds reached (record { sender = i; segment = g; now = now }) record { sender_known = known; placeable = placeable }
      (λ is_reset. omega (arith, kept is_reset, holds.stage)) (sym verdict-same ∙ passes) in
      let renewed = passed-renewed c i g now kept in
      let side = renewed.side ∙ ap (λ (x : Entry connections). x.connection.side) r.is in
      let deadline = renewed.deadline ∙ ap (λ (s : ℕ). now + life_of s) after.0.stage in
      subst (λ (k : Flow). Stands (record { key = k; connection = passed c i g now }) (after-h now))
      (sym (ap (λ (x : Entry connections). x.key) r.is))
      (stands_by f.key _ _ side deadline after.0 after.1)

  -- not in stage 1, so in a later one
  from-2 : (c.stage ≡ 1 → ⊥) → 2 ≤ c.stage
  from-2 later = go reached
    where
      go : Reached h → 2 ≤ c.stage
      go (unanswered u turned) = absurd (later (holds.stage ∙ u.stage))
      go (answered a turned) = omega (arith, holds.stage, a.stage)

  -- a pass frees both or neither
  stage-same : (now : ℕ) → verdict_on c i g ≡ pass → (passed c i g now).stage ≡ stage_of (placed h i g ∷ h)
  stage-same now passes = go (true-or-false frees)
    where
      frees : Bool
      frees = (c.stage =ᵇ 1) && is_reset g.flags

      go : (frees ≡ true) ⊎ (frees ≡ false) → (passed c i g now).stage ≡ stage_of (placed h i g ∷ h)
      go (inl is) =
          let f = &&-true (c.stage =ᵇ 1) (is_reset g.flags) is in
          let first = eqb-true _ _ f.0 in
          let is_reset = eqb-true _ _ f.1 in
          ap (λ (x : Connection). x.stage) (reset-frees c i g now first is_reset) ∙ sym (reset-freed h (placed h i g) is_reset (sym holds.stage ∙ first))
      go (inr not) =
          let kept : rst g.flags ≡ 1 → 2 ≤ c.stage = λ (is_reset : rst g.flags ≡ 1).
          from-2 (λ (first : c.stage ≡ 1). false-true (sym not ∙ true-&& _ _ (eq-eqb _ _ first) (eq-eqb _ _ is_reset))) in
          ap (λ (x : Entry connections). x.connection.stage) (passed-stands now passes kept).is

  after-stands : (now : ℕ) → verdict_on c i g ≡ pass → Stands (entry_after connections e i g now) (entry_after histories f i g now)
  unfolding entry_with
  after-stands now passes =
      when-both Stands _ _ _ _ _ _ (ap (λ (n : ℕ). n =ᵇ 0) (stage-same now passes)) (λ _. free-stands)
      (λ in_use. passed-stands now passes (λ is_reset. from-2 (λ (first : c.stage ≡ 1).
      eqb-false _ _ in_use (ap (λ (x : Connection). x.stage) (reset-frees c i g now first is_reset)))))

entries-agree : Agreeing Stands Placeable
entries-agree = record {
  key = λ r. ap (λ (x : Entry connections). x.key) r.is;
  side = λ r. ap (λ (x : Entry connections). x.connection.side) r.is;
  deadline = λ r. ap (λ (x : Entry connections). x.connection.deadline) r.is;
  free = free-stands;
  made = made-stands;
  verdict = λ i g r Live-now known placeable. verdict-same i g r Live-now known placeable;
  passed = λ i g now r Live-now known placeable. after-stands i g r Live-now known placeable now;
}

-- The lists

same_outcome :
    (t : View connections) (u : View histories) → Related Stands t u → (a : Ask) → Placeable a.segment →
    Alike Stands (filter connections t a) (filter histories u a)
same_outcome = filter_same Stands Placeable entries-agree

fresh-related : (n : ℕ) → Related Stands (fresh connections n) (fresh histories n)
fresh-related n = record { clock = refl; places = refl; entries = λ p. free-stands }

tables-related :
    (n : ℕ) (l : List Ask) → AllPlaceable l →
    Related Stands (view_after connections n l) (view_after histories n l)
unfolding view_after AllPlaceable
tables-related n [] placeable = fresh-related n
tables-related n (a ∷ l) placeable =
    let before = tables-related n l placeable.1 in
    let t = view_after connections n l in
    let u = view_after histories n l in
    after-alike Stands t u before (filter connections t a) (filter histories u a) (same_outcome t u before a placeable.0)

-- the answer speaks of all places
module _
    (t : View connections) (u : View histories) (related : Related Stands t u) (a : Ask) (placeable : Placeable a.segment) where
  abbrev now : ℕ
  now = clock_used histories u a

  abbrev g : Segment
  g = a.segment

  abbrev segments : ℕ → List LineSegment
  segments p = (u.entry p).connection.segments

  abbrev i : ℕ → ℕ
  i p = sender_of histories (u.entry p) a.side

  same_answer : answer_of connections (filter connections t a) ≡ answer_of histories (filter histories u a)
  same_answer = answer-alike Stands (filter connections t a) (filter histories u a) (same_outcome t u related a placeable)

  module _ (p : ℕ) (match : rows.search histories u now a.side a.key ≡ Some p) where
    answer-judged : answer_of connections (filter connections t a) ≡ verdict_number (judge (segments p) (placed (segments p) (i p) g))
    answer-judged =
        same_answer
        ∙ ap (answer_of histories) (on_segment-by-search histories u now a.side a.key g (Some p) match)
        ∙ ap (answer_of histories) (on_entry-by-verdict histories (u.entry p) p now a.side g (judge (segments p) (placed (segments p) (i p) g)) refl)
        ∙ answer-by-verdict histories (judge (segments p) (placed (segments p) (i p) g)) p now _

    match-reached : Reached (segments p)
    match-reached = (related.entries p).reached (omega (arith, (found-live histories u now a.side a.key g p match).1))

  answer-found :
      (r : Option ℕ) → rows.search histories u now a.side a.key ≡ r → (n : ℕ) → answer_of connections (filter connections t a) ≡ n →
      (n ≡ 14) ⊎ (n ≡ 15) → (p : ℕ) × FoundFromStage2 u a p
  answer-found None none n is ranged =
      let least : answer_of connections (filter connections t a) ≤ 12 =
      rw (same_answer ∙ ap (answer_of histories) (on_segment-by-search histories u now a.side a.key g None none))
      (unmatched-answer histories u now a.side a.key g) in
      absurd (⊎_elim (λ (e : n ≡ 14). omega (arith, least, is, e)) (λ (e : n ≡ 15). omega (arith, least, is, e)) ranged)
  answer-found (Some p) match n is ranged =
      let number = sym (answer-judged p match) ∙ is in (
        p,
        record {
          match = match;
          stage = from-stage-2 (segments p) (match-reached p match) (placed (segments p) (i p) g)
              (⊎_elim (λ (e : n ≡ 14). inl (number ∙ e)) (λ (e : n ≡ 15). inr (number ∙ e)) ranged);
        },
      )

  places-related : AnswersByAllPlaces u a (answer_of connections (filter connections t a))
  places-related = record {
    found = answer-found (rows.search histories u now a.side a.key) refl (answer_of connections (filter connections t a)) refl;
    places = λ p m.
        rw (answer-judged p m.match)
        (by-all-places (segments p) (match-reached p m.match) m.stage (i p) (sender_known histories (u.entry p) a.side) g placeable);
  }

pub demand2 : Demand2
demand2 n l placeable =
    let related = tables-related n l placeable in
    let t = view_after connections n l in
    let u = view_after histories n l in
    record {
      table = λ i. record { clock = related.clock i; places = related.places i; entry = λ p. (related.entries p).is i };
      answer = λ a placeable. answer-alike Stands (filter connections t a) (filter histories u a) (same_outcome t u related a placeable);
      place = λ number a placeable.
          place-alike Stands number (filter connections t a) (filter histories u a) (same_outcome t u related a placeable);
      all_places = λ a placeable. places-related t u related a placeable;
    }
