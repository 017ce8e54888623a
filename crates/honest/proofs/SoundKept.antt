-- A call leaves a sound table sound, whatever the traffic.
use Prim.Native.Nat.{ℕ, zero, suc, ◌^◌, ◌<◌, ◌≤◌}
use mathlib.Core.Path.{◌≡◌, refl, ap}
use mathlib.Core.Logic.{◌⊎◌, inl, inr, ⊎_elim}
use mathlib.Core.Bool.{true, false}
use mathlib.Core.List.{List, [], ◌∷◌}
use native.Mathlib.Omega.{arith}
use borrow.Author.Tests.{eqb-false}
use Rattle.choice.specs.Choice.{◌=ᵇ◌}
use Rattle.choice.proofs.Choice.{when-either, when-cases}
use Rattle.choice.proofs.Tests.{lt-or-ge}
use Rattle.serial.specs.Ring.{ring_plus}
use Rattle.serial.specs.Serial.{further}
use Rattle.serial.specs.declared.SeqNum.{SeqNum}
use Rattle.serial.proofs.Ring.{wrap-small}
use Rattle.address.specs.Flows.{no_flow}
use Rattle.address.specs.declared.Flow.{Flow}
use Rattle.segment.specs.Flags.{rst}
use Rattle.segment.specs.declared.Segment.{Segment}
use Rattle.connection.specs.Ends.{zeros, unheard, begun, sent, granted, ends_after}
use Rattle.connection.specs.Decision.{pass, verdict_on, free, opened, repeated, answered, carried, reset, passed}
use Rattle.connection.specs.Sound.{sound_connection}
use Rattle.connection.specs.declared.Connection.{Connection}
use Rattle.connection.specs.declared.End.{End}
use Rattle.connection.proofs.Sound.{sound-facts, later-sound}
use Rattle.rows.specs.Rows.{Ask, Entry, View, Outcome, Blocked, Passed, free_entry, entry_with, entry_after, opening_entry, clock_used, filter, after}
use Rattle.rows.specs.Connections.{connections}
use Rattle.rows.proofs.Rows.{sender_known, Comes, blocks, passes, makes, comes}
use Rattle.history.specs.History.{Placeable}
use Rattle.history.specs.Records.{SeqNumsFit, TwoEnds}
use Rattle.history.proofs.Demand2.{reset-frees}
use Rattle.history.proofs.Sound.{opened-sound, passed-sound}
use Rattle.honest.specs.Sound.{SoundView, TwoEnded, TwoEndedView}

-- Numbers stay below 2^32

abbrev Below : SeqNum → Type 0
Below s = s.0 < 2 ^ 32

plus-below : (s n : ℕ) → ring_plus s n < 2 ^ 32
unfolding ring_plus
plus-below s n = omega arith

further-below : (base a b : SeqNum) → Below (further base a b)
unfolding further
further-below base a b = wrap-small _

opening-fits : (g : Segment) → SeqNumsFit (begun g)
opening-fits g = record { end = plus-below _ _; edge = plus-below _ _ }

sent-fits : (e : End) (g : Segment) → SeqNumsFit e → SeqNumsFit (sent e g)
unfolding sent
sent-fits e g f = record { end = further-below e.end e.end _; edge = f.edge }

granted-fits : (e : End) (g : Segment) → SeqNumsFit e → SeqNumsFit (granted e g)
unfolding granted
granted-fits e g f = record { end = f.end; edge = further-below e.end e.edge _ }

-- Two ends stay two

record Two (l : List End) : Type 0 where
  of : ℕ → End
  is : l ≡ of 0 ∷ of 1 ∷ []
  opener : SeqNumsFit (of 0)
  answerer : SeqNumsFit (of 1)

abbrev two : End → End → ℕ → End
two e f zero = e
two e f (suc i) = f

both : (e f : End) → SeqNumsFit e → SeqNumsFit f → Two (e ∷ f ∷ [])
both e f p q = record { of = two e f; is = refl; opener = p; answerer = q }

two-ended : (c : Connection) → Two c.ends → TwoEnded c
two-ended c t = (t.of, record { two = t.is; opener = t.opener; answerer = t.answerer })

zeros-fit : SeqNumsFit zeros
zeros-fit = record { end = omega arith; edge = omega arith }

pub free-two-ended : TwoEnded free
free-two-ended = two-ended free (both zeros zeros zeros-fit zeros-fit)

opened-two-ended : (side : ℕ) (g : Segment) (now : ℕ) → TwoEnded (opened side g now)
unfolding opened
opened-two-ended side g now = two-ended _ (both (begun g) unheard (opening-fits g) record { end = omega arith; edge = omega arith })

module _ (c : Connection) (x : ℕ → End) (ends : TwoEnds c x) (g : Segment) (now : ℕ) where
  repeated-two-ended : TwoEnded (repeated c g now)
  unfolding repeated
  repeated-two-ended = two-ended _ (rw ends.two (both _ (x 1) record { end = ends.opener.end; edge = ends.opener.edge } ends.answerer))

  answered-two-ended : TwoEnded (answered c g now)
  unfolding answered
  answered-two-ended = two-ended _ (rw ends.two (both (granted (x 0) g) (begun g) (granted-fits (x 0) g ends.opener) (opening-fits g)))

  ends_after-two : (i : ℕ) → i < 2 → Two (ends_after (x 0 ∷ x 1 ∷ []) i g)
  unfolding ends_after
  ends_after-two zero h =
      let F = sent-fits (x 0) g ends.opener in
      when-either Two _ _ _ (both _ _ F (granted-fits (x 1) g ends.answerer)) (both _ _ F ends.answerer)
  ends_after-two (suc zero) h =
      let F = sent-fits (x 1) g ends.answerer in
      when-either Two _ _ _ (both _ _ (granted-fits (x 0) g ends.opener) F) (both _ _ ends.opener F)
  ends_after-two (suc (suc i)) h = absurd (omega arith)

  carried-two-ended : (i : ℕ) → i < 2 → TwoEnded (carried c i g now)
  unfolding carried
  carried-two-ended i h = two-ended _ (rw ends.two (ends_after-two i h))

  reset-two-ended : TwoEnded (reset c now)
  unfolding reset
  reset-two-ended = (x, record { two = ends.two; opener = ends.opener; answerer = ends.answerer })

  passed-two-ended : (i : ℕ) → i < 2 → TwoEnded (passed c i g now)
  unfolding passed
  passed-two-ended i h =
      when-either TwoEnded _ _ _ (when-either TwoEnded _ _ _ reset-two-ended free-two-ended)
      (when-either TwoEnded _ _ _ (carried-two-ended i h) (when-either TwoEnded _ _ _ repeated-two-ended answered-two-ended))

-- One entry

-- free or sound by a clock, and two-ended
pub record SoundEntry (clock : ℕ) (e : Entry connections) : Type 0 where
  pub sound : (e ≡ free_entry connections) ⊎ (sound_connection clock e.connection ≡ true)
  pub two-ended : TwoEnded e.connection

free-sound : (clock : ℕ) → SoundEntry clock (free_entry connections)
free-sound clock = record { sound = inl refl; two-ended = free-two-ended }

entry-later : (clock now : ℕ) (e : Entry connections) → clock ≤ now → SoundEntry clock e → SoundEntry now e
entry-later clock now e later s = record {
  sound = ⊎_elim (λ free. inl free) (λ sound. inr (later-sound clock now _ later sound)) s.sound;
  two-ended = s.two-ended;
}

-- A call

module _ (v : View connections) (a : Ask) where
  abbrev now : ℕ
  now = clock_used connections v a

  abbrev g : Segment
  g = a.segment

  sound-at : SoundView v → TwoEndedView v → (p : ℕ) → p < v.places → SoundEntry v.clock (v.entry p)
  sound-at sound two-ended p inside = record { sound = sound p inside; two-ended = two-ended p inside }

  -- what a pass leaves of a live entry is free or sound
  passed_entry :
      (e : Entry connections) (i : ℕ) → i < 2 → SoundEntry v.clock e → Placeable g → now < e.connection.deadline →
      verdict_on e.connection i g ≡ pass →
      SoundEntry now (entry_after connections e i g now)
  unfolding entry_with
  passed_entry e i known s placeable live verdict =
      let x = s.two-ended.0 in
      let ends = s.two-ended.1 in
      when-cases (SoundEntry now) ((passed e.connection i g now).stage =ᵇ 0) _ _
      (λ _. free-sound _)
      (λ in_use. record {
        sound = inr (passed-sound v.clock e.connection x ends not_free i known g placeable now verdict (kept in_use));
        two-ended = passed-two-ended e.connection x ends g now i known;
      })
    where
      not_free : sound_connection v.clock e.connection ≡ true
      not_free =
          ⊎_elim (λ free. absurd (omega (arith, ap (λ (f : Entry connections). f.connection.deadline) free))) (λ sound. sound) s.sound

      kept : (passed e.connection i g now).stage =ᵇ 0 ≡ false → rst g.flags ≡ 1 → 2 ≤ e.connection.stage
      kept in_use is_reset =
          ⊎_elim
          (λ (first : e.connection.stage < 2).
          absurd (eqb-false _ _ in_use (ap (λ (c : Connection). c.stage) (reset-frees e.connection i g now (omega (arith, (sound-facts v.clock e.connection not_free).stage-some)) is_reset))))
          (λ (later : 2 ≤ e.connection.stage). later)
          (lt-or-ge e.connection.stage 2)

  -- what a pass leaves: at a place of the view, by the clock used, an entry that is free or sound, with addresses and ports of a free
  -- entry, of the call or of the entry that was there
  pub record Left (p used : ℕ) (e : Entry connections) : Type 1 where
    pub inside : p < v.places
    pub clock : used ≡ now
    pub sound : SoundEntry used e
    pub key : (SeqNumsFit : Flow → Type 0) → SeqNumsFit no_flow → SeqNumsFit a.key → SeqNumsFit (v.entry p).key → SeqNumsFit e.key

  abbrev pub LeftBy : Outcome connections → Type 1
  LeftBy (Blocked n place) = Unit {1}
  LeftBy (Passed p used e) = Left p used e

  entry_key :
      (SeqNumsFit : Flow → Type 0) (e : Entry connections) (c : Connection) → SeqNumsFit no_flow → SeqNumsFit e.key →
      SeqNumsFit (entry_with connections e c).key
  unfolding entry_with
  entry_key SeqNumsFit e c none there = when-either (λ (x : Entry connections). SeqNumsFit x.key) _ _ _ none there

  made-left :
      (p : ℕ) → p < v.places → a.side ≤ 1 → Placeable g →
      Left p now (opening_entry connections now a.side a.key g)
  unfolding opening_entry
  made-left p inside known placeable = record {
    inside = inside;
    clock = refl;
    sound = record { sound = inr (opened-sound a.side g now known placeable); two-ended = opened-two-ended a.side g now };
    key = λ SeqNumsFit none asked there. asked;
  }

  pub filter-left : SoundView v → TwoEndedView v → a.side ≤ 1 → Placeable a.segment → LeftBy (filter connections v a)
  filter-left sound two-ended known placeable = go _ (comes connections v now a.side a.key g)
    where
      go : (o : Outcome connections) → Comes connections v now a.side a.key g o → LeftBy o
      go o (blocks n is _ _) = rw is tt
      go o (makes p is _ inside _) = rw is (made-left p inside known placeable)
      go o (passes p is _ inside live verdict) =
          let was = sound-at sound two-ended p inside in
          rw is record {
            inside = inside;
            clock = refl;
            sound = passed_entry (v.entry p) _ (sender_known connections (v.entry p) a.side) was placeable live verdict;
            key = λ SeqNumsFit none asked there. entry_key SeqNumsFit (v.entry p) _ none there;
          }

  -- so a call leaves a sound view sound
  pub filter-sound :
      SoundView v → TwoEndedView v → a.side ≤ 1 → Placeable a.segment →
      SoundView (after connections v (filter connections v a)) × TwoEndedView (after connections v (filter connections v a))
  filter-sound sound two-ended known placeable = go (filter connections v a) (filter-left sound two-ended known placeable)
    where
      go : (o : Outcome connections) → LeftBy o → SoundView (after connections v o) × TwoEndedView (after connections v o)
      go (Blocked n place) left = (sound, two-ended)
      go (Passed p used e) left = ((λ q inside. (all q inside).sound), (λ q inside. (all q inside).two-ended))
        where
          all : (q : ℕ) → q < v.places → SoundEntry used ((after connections v (Passed p used e)).entry q)
          all q inside =
              let was = sound-at sound two-ended q inside in
              when-either (SoundEntry used) (q =ᵇ p) e (v.entry q) left.sound (entry-later v.clock used _ (omega (arith, left.clock)) was)
