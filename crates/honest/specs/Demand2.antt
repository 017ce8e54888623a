-- Demand 2 over lists of calls: the table always is the histories' in numbers, and each answer and place is what the histories give.
-- Lists are newest first: in a ∷ l, a comes after all of l.
use Rattle.std.specs.Prelude.{ℕ, ◌≤◌, ◌≡◌, ◌⊎◌, List, [], ◌∷◌, Some}
use Rattle.rows.specs.Rows.{Bodies, Ask, View, Outcome, free_entry, match_of, sender_of, filter, answer_of, place_by, after}
use Rattle.rows.specs.Connections.{connections}
use Rattle.history.specs.History.{stage_of, Placeable}
use Rattle.history.specs.Places.{ByAllPlaces}
use Rattle.honest.specs.Machine.{Reading, refused, asks, apart, Machine}
use Rattle.honest.specs.Histories.{histories, in_numbers}

module _ (B : Bodies) (n : ℕ) where
  -- the fresh table: n free places
  abbrev pub fresh : View B
  fresh = record { clock = 0; places = n; entry = λ p. free_entry B }

  -- each call is lent the table that the last one left
  unfoldable pub view_after : List Ask → View B
  view_after [] = fresh
  view_after (a ∷ l) = after B (view_after l) (filter B (view_after l) a)

  -- what the next call comes to
  abbrev pub outcome_after : List Ask → Ask → Outcome B
  outcome_after l a = filter B (view_after l) a

-- every call's segment is fit for the line, as all are that the packet reader gives
unfoldable pub AllPlaceable : List Ask → Type 0
AllPlaceable [] = Unit {0}
AllPlaceable (a ∷ l) = Placeable a.segment × AllPlaceable l

-- a call has found the history at place p, from stage 2 on
pub record FoundFromStage2 (v : View histories) (a : Ask) (p : ℕ) : Type 0 where
  pub match : match_of histories v a ≡ Some p
  pub stage : 2 ≤ stage_of (v.entry p).connection.segments

-- an answer speaks of all places on the line that have the segment's 32 bits
pub record AnswersByAllPlaces (v : View histories) (a : Ask) (answer : ℕ) : Type 0 where
  -- 14 and 15 are given only where such a history has been found
  pub found : (answer ≡ 14) ⊎ (answer ≡ 15) → (p : ℕ) × FoundFromStage2 v a p
  -- and there 14 says that no place at all meets I and II; 15, that one does, ACK is set, and none meets III and IV; 0, that they are met
  pub places :
      (p : ℕ) → FoundFromStage2 v a p →
      ByAllPlaces (v.entry p).connection.segments (sender_of histories (v.entry p) a.side) a.segment answer

-- after a list of calls the table is that of the histories in numbers, and the next call has the answer and the place that they give,
-- whatever the numbers of the places are
pub record FollowsHistories (n : ℕ) (l : List Ask) : Type 0 where
  pub table : view_after connections n l ≡ in_numbers (view_after histories n l)
  pub answer :
      (a : Ask) → Placeable a.segment →
      answer_of connections (outcome_after connections n l a) ≡ answer_of histories (outcome_after histories n l a)
  pub place :
      (number : ℕ → ℕ) (a : Ask) → Placeable a.segment →
      place_by number (outcome_after connections n l a) ≡ place_by number (outcome_after histories n l a)
  pub all_places :
      (a : Ask) → Placeable a.segment →
      AnswersByAllPlaces (view_after histories n l) a (answer_of connections (outcome_after connections n l a))

-- from the fresh table of any number of places, after every list of well-formed calls
abbrev pub Demand2 : Type 0
Demand2 = (n : ℕ) (l : List Ask) → AllPlaceable l → FollowsHistories n l

-- And of a machine

-- with a call, if it asks something
abbrev pub with_ask : Reading Ask → List Ask → List Ask
with_ask (refused n place) l = l
with_ask (asks a) l = a ∷ l
with_ask apart l = l

-- a machine's calls, as the rows are asked
unfoldable pub asked : (M : Machine) → List M.Call → List Ask
asked M [] = []
asked M (q ∷ l) = with_ask (M.reads q) (asked M l)

module _ (M : Machine) (s₀ : M.State) where
  -- each call is lent the state that the last one left
  unfoldable pub state_after : List M.Call → M.State
  state_after [] = s₀
  state_after (q ∷ l) = (M.run (state_after l) q).next

  -- after a list of calls the machine's view is the histories' table in numbers; a next call that asks has the answer and the place that
  -- they give, one that is refused has the answer and the place of its refusal, and one on another part of the table leaves the view
  pub record MachineFollows (n : ℕ) (l : List M.Call) : Type 0 where
    pub table : M.view (state_after l) ≡ in_numbers (view_after histories n (asked M l))
    pub answer :
        (q : M.Call) (a : Ask) → M.reads q ≡ asks a →
        (M.run (state_after l) q).answer ≡ answer_of histories (outcome_after histories n (asked M l) a)
    pub place :
        (q : M.Call) (a : Ask) → M.reads q ≡ asks a →
        (M.run (state_after l) q).place ≡ place_by M.number (outcome_after histories n (asked M l) a)
    pub all_places :
        (q : M.Call) (a : Ask) → M.reads q ≡ asks a →
        AnswersByAllPlaces (view_after histories n (asked M l)) a (M.run (state_after l) q).answer
    pub refusal_answer : (q : M.Call) (m place : ℕ) → M.reads q ≡ refused m place → (M.run (state_after l) q).answer ≡ m
    pub refusal_place : (q : M.Call) (m place : ℕ) → M.reads q ≡ refused m place → (M.run (state_after l) q).place ≡ place
    pub apart_stays : (q : M.Call) → M.reads q ≡ apart → M.view (M.run (state_after l) q).next ≡ M.view (state_after l)

-- from every sound state whose view is the fresh table of any number of places, after every list of calls
abbrev pub Demand2Of : (M : Machine) → (M.State → Type 0) → Type 0
Demand2Of M Sound =
    (s₀ : M.State) → Sound s₀ → (n : ℕ) → M.view s₀ ≡ fresh connections n → (l : List M.Call) →
    MachineFollows M s₀ n l
