-- Demand 3: two honest ends are never blocked, by any machine that keeps to the rows.
use Prim.Native.Nat.{ℕ, ◌+◌, ◌<◌, ◌≤◌, max}
use mathlib.Core.Path.{◌≡◌, refl, sym, ap, subst, ◌∙◌}
use mathlib.Core.Logic.{◌⊎◌, inl, inr, ⊎_elim}
use mathlib.Core.Bool.{Bool, true, false, ◌&&◌}
use mathlib.Core.List.{List, [], ◌∷◌}
use native.Mathlib.Omega.{arith}
use borrow.Author.Tests.{eq-eqb, eqb-true, eqb-false, lt-ltb, ltb-true}
use Rattle.std.specs.Prelude.{None, Some}
use Rattle.choice.specs.Choice.{when◌then◌else◌, ◌<ᵇ◌, ◌=ᵇ◌}
use Rattle.choice.proofs.Choice.{when-true, when-false, when-either, when-cases, when-=-not}
use Rattle.choice.proofs.Tests.{false-true, true-or-false, lt-or-ge, true-&&, &&-true}
use Rattle.segment.specs.Flags.{rst, is_reset, SYN}
use Rattle.connection.specs.Stages.{life_of}
use Rattle.connection.specs.Decision.{pass, verdict_on, passed, opened, reset}
use Rattle.connection.specs.declared.Connection.{Connection}
use Rattle.rows.specs.Rows as rows
use Rattle.rows.specs.Rows.{Ask, View, Entry, Passed as Passes, clock_used, sender_of, entry_with, entry_after, on_entry, filter, answer_of, place_by, after}
use Rattle.rows.specs.Connections.{connections}
use Rattle.rows.proofs.Rows.{on_segment-by-search, on_entry-by-verdict}
use Rattle.history.specs.Numbers.{Numbers}
use Rattle.history.specs.History.{LineSegment, on_wire, stage_of, Holds, Formed}
use Rattle.connection.proofs.Stages.{life_of-outside}
use Rattle.history.proofs.Pass.{reset-freed, reset-answered, reset-holds, opened-unanswered, opened-holds, opener-begins}
use Rattle.honest.specs.Sound.{SoundView}
use Rattle.honest.specs.Machine.{Reading, refused, asks, apart, Machine, clock_in, asks_here, brings_reset, KeepsTo}
use Rattle.honest.specs.Rules.{Label, opening, arrival, other, Event, send, call, delivery, Pair, side_of, key_of, Sent, Arrived, received_by, highest_ack_at_sending, Honest, overtaking_allowance}
use Rattle.honest.specs.Honest.{Told, passes, next_clock, after_segment, passed_on_ours, some_reset, after_elsewhere, after_call, told, said, Live, WasPassed, bringing, Opening, Arrival, FairCall, Legal, NeverBlocked, Demand3}
use Rattle.honest.proofs.Lists.{In, NoReset}
use Rattle.honest.proofs.Sends.{SentWith, sent-with, sending, First, Later, Fact, Protocol, answered-in, protocol-sent, protocol-delivered, protocol-called, protocol-passed, protocol-reset, rises-more}
use Rattle.honest.proofs.Arrival.{Heard, quiet, both, passing, Renewed, reset-renewed, passed-renewed, opened-renewed}
use Rattle.honest.proofs.Table.{OurEntry, OthersExpired, ours, AskOf, arrival-found, opening-made, pass-elsewhere, pass-on-ours, reset-on-ours, found-place, pass-clock}

-- a stage with a life is not that of a free entry
in-use-stage : (stage : ℕ) → 1 ≤ life_of stage → stage ≡ 0 → ⊥
unfolding life_of when◌then◌else◌
in-use-stage stage life free = absurd (omega (arith, life, ap life_of free))

-- A call passed on the opening's entry, fact by fact

module _ (M : Machine) (t : Told M) (q : M.Call) where
  pub record OnOurs : Type 0 where
    pub after_opening : t.opening_seen ≡ true
    pub live : Live M t q
    pub here : asks_here (M.reads q) ≡ true
    pub answered_0 : passes M t q ≡ true
    pub place : (M.run t.state q).place ≡ t.place

  pub on-ours-facts : passed_on_ours M t q ≡ true → OnOurs
  unfolding passed_on_ours
  on-ours-facts e =
      let placed-there : Bool = (M.run t.state q).place =ᵇ t.place in
      let live : Bool = max (clock_in (M.reads q)) t.pass_clock <ᵇ t.until in
      let a = &&-true t.opening_seen (live && (asks_here (M.reads q) && (passes M t q && placed-there))) e in
      let b = &&-true live (asks_here (M.reads q) && (passes M t q && placed-there)) a.1 in
      let c = &&-true (asks_here (M.reads q)) (passes M t q && placed-there) b.1 in
      let d = &&-true (passes M t q) placed-there c.1 in
      record { after_opening = a.0; live = omega (arith, ltb-true (max (clock_in (M.reads q)) t.pass_clock) t.until b.0); here = c.0; answered_0 = d.0; place = eqb-true _ _ d.1 }

  pub on-ours :
      t.opening_seen ≡ true → Live M t q → asks_here (M.reads q) ≡ true → passes M t q ≡ true → (M.run t.state q).place ≡ t.place →
      passed_on_ours M t q ≡ true
  unfolding passed_on_ours
  on-ours opened-t live here answered place =
      true-&& _ _ opened-t
      (true-&& _ _ (lt-ltb (max (clock_in (M.reads q)) t.pass_clock) t.until (omega (arith, live)))
      (true-&& _ _ here (true-&& _ _ answered (eq-eqb (M.run t.state q).place t.place place))))

module _ (M : Machine) (Sound : M.State → Type 0) (keeps : KeepsTo M Sound) (s₀ : M.State) (P : Pair) (known : P.side ≤ 1) where
  -- the entry is there as the history has it, and no other of the pair is live
  pub record Alive (t : Told M) (c : Connection) : Type 0 where
    pub place : ℕ
    pub numbered : M.number place ≡ t.place
    pub ours : OurEntry P (M.view t.state) place c
    pub others : OthersExpired P (M.view t.state) place
    pub holds : Holds c t.history
    pub heard : Heard P t.history
    pub told-early : t.until ≤ c.deadline

  pub data Phase (t : Told M) : Type 0 where
    before : t.opening_seen ≡ false → t.history ≡ [] → Phase t
    dead : t.opening_seen ≡ true → t.until ≤ t.pass_clock → Phase t
    alive : t.opening_seen ≡ true → (c : Connection) → Alive t c → Phase t

  pub record Table-kept (t : Told M) : Type 0 where
    pub sound : Sound t.state
    pub clock : (M.view t.state).clock ≡ t.pass_clock
    pub phase : Phase t

  pub record Inv (L : List (Event M.Call)) : Type 0 where
    pub table : Table-kept (told M s₀ L)
    pub protocol : Protocol P (told M s₀ L).history (λ k p. Arrived k p L) L

  -- What a call does to the table

  module _ (t : Told M) (kept : Table-kept t) (q : M.Call) where
    -- the table before it, and the clock used
    abbrev v : View connections
    v = M.view t.state

    abbrev used : Ask → ℕ
    used a = clock_used connections v a

    -- a call that does not pass leaves the table as it was
    blocked-same : passes M t q ≡ false → M.view (M.run t.state q).next ≡ v
    unfolding passes
    blocked-same e = keeps.blocked_keeps t.state q (eqb-false _ _ e)

    sound-before : SoundView v
    sound-before = keeps.sound_view t.state kept.sound

    passed-0 : passes M t q ≡ true → (M.run t.state q).answer ≡ 0
    unfolding passes
    passed-0 e = eqb-true _ _ e

    -- one that asks and passes is answered by the rows
    pub record Asked : Type 0 where
      pub ask : Ask
      pub read : M.reads q ≡ asks ask
      pub answer : answer_of connections (filter connections v ask) ≡ 0
      pub place : (M.run t.state q).place ≡ place_by M.number (filter connections v ask)
      pub table : M.view (M.run t.state q).next ≡ after connections v (filter connections v ask)

    asked : (a : Ask) → M.reads q ≡ asks a → passes M t q ≡ true → Asked
    asked a is e = record {
      ask = a;
      read = is;
      answer = sym (keeps.answer_by_rows t.state q a kept.sound is) ∙ passed-0 e;
      place = keeps.place_by_rows t.state q a kept.sound is;
      table = keeps.view_by_rows t.state q a kept.sound is;
    }

    -- the header clock is the largest clock used at a pass
    clock-after : Asked → passes M t q ≡ true → (M.view (M.run t.state q).next).clock ≡ next_clock M t q
    clock-after x e =
        let used = ap (λ (b : View connections). b.clock) x.table ∙ pass-clock P v x.ask x.answer in
        let given = ap clock_in x.read in
        let next : next_clock M t q ≡ max (clock_in (M.reads q)) t.pass_clock = when-true _ _ _ e in
        omega (arith, used, given, next, kept.clock)

    -- A call that is not passed on the opening's entry

    -- one that leaves the table and the pass clock as they were
    unmoved-phase :
        M.view (M.run t.state q).next ≡ v → next_clock M t q ≡ t.pass_clock →
        Phase t → Phase (after_elsewhere M t q)
    unmoved-phase same clock (before closed none) = before closed none
    unmoved-phase same clock (dead opened-t late) = dead opened-t (omega (arith, late, clock))
    unmoved-phase same clock (alive opened-t c al) = alive opened-t c record {
      place = al.place;
      numbered = al.numbered;
      ours = rw same al.ours;
      others = rw same al.others;
      holds = al.holds;
      heard = al.heard;
      told-early = al.told-early;
    }

    unmoved : M.view (M.run t.state q).next ≡ v → next_clock M t q ≡ t.pass_clock → Table-kept (after_elsewhere M t q)
    unmoved same clock = record {
      sound = keeps.sound_kept t.state q kept.sound;
      clock = omega (arith, ap (λ (b : View connections). b.clock) same, clock, kept.clock);
      phase = unmoved-phase same clock kept.phase;
    }

    clocks-rise : t.pass_clock ≤ next_clock M t q
    clocks-rise = when-either (λ n. t.pass_clock ≤ n) _ _ _ (omega arith) (omega arith)

    -- a call on another part of the table does not move the pass clock
    apart-clock : M.reads q ≡ apart → next_clock M t q ≡ t.pass_clock
    apart-clock is = let given = ap clock_in is in when-either (λ n. n ≡ t.pass_clock) _ _ _ (omega arith) refl

    -- a connection that is live as told is live by its deadline
    live_now :
        (c : Connection) → Alive t c → (a : Ask) → M.reads q ≡ asks a → Live M t q →
        used a < c.deadline
    live_now c al a read live =
        let given = ap clock_in read in
        omega (arith, kept.clock, al.told-early, live, given)

    elsewhere-phase : (passed_on_ours M t q ≡ true → ⊥) → Asked → passes M t q ≡ true → Phase t → Phase (after_elsewhere M t q)
    elsewhere-phase not_ours x e (before closed none) = before closed none
    elsewhere-phase not_ours x e (dead opened-t late) = dead opened-t (omega (arith, late, clocks-rise))
    elsewhere-phase not_ours x e (alive opened-t c al) =
        ⊎_elim
        (λ (under : max (clock_in (M.reads q)) t.pass_clock < t.until).
        let live : Live M t q = omega (arith, under) in
        let elsewhere : place_by M.number (filter connections v x.ask) ≡ M.number al.place → ⊥ = λ same.
        not_ours (on-ours M t q opened-t live (ap asks_here x.read) e (x.place ∙ same ∙ al.numbered)) in
        let now = live_now c al x.ask x.read live in
        let r =
        pass-elsewhere P known v sound-before M.number al.place c x.ask al.ours al.others now x.answer
        elsewhere in
        alive opened-t c record {
          place = al.place;
          numbered = al.numbered;
          ours = rw x.table r.0;
          others = rw x.table r.1;
          holds = al.holds;
          heard = al.heard;
          told-early = al.told-early;
        })
        (λ (late : t.until ≤ max (clock_in (M.reads q)) t.pass_clock).
        let next : next_clock M t q ≡ max (clock_in (M.reads q)) t.pass_clock = when-true _ _ _ e in
        dead opened-t (omega (arith, late, next)))
        (lt-or-ge (max (clock_in (M.reads q)) t.pass_clock) t.until)

    elsewhere-kept : (passed_on_ours M t q ≡ true → ⊥) → Table-kept (after_elsewhere M t q)
    elsewhere-kept not_ours =
        ⊎_elim (by-reading (M.reads q) refl) (λ (e : passes M t q ≡ false). unmoved (blocked-same e) (when-false _ _ _ e))
        (true-or-false (passes M t q))
      where
        by-reading : (r : Reading Ask) → M.reads q ≡ r → passes M t q ≡ true → Table-kept (after_elsewhere M t q)
        by-reading (refused n place) is e =
            absurd (keeps.refusal_blocks q n place is (sym (keeps.refusal_answered t.state q n place kept.sound is) ∙ passed-0 e))
        by-reading (asks a) is e =
            let x = asked a is e in
            record {
              sound = keeps.sound_kept t.state q kept.sound;
              clock = clock-after x e;
              phase = elsewhere-phase not_ours x e kept.phase;
            }
        by-reading apart is e = unmoved (keeps.apart_keeps t.state q kept.sound is) (apart-clock is)

    -- A call that passes on the opening's entry; p is put on its history

    module _ (p : LineSegment) (a : Ask) (read : M.reads q ≡ asks a) (e : passes M t q ≡ true) where
      answer_0 : answer_of connections (filter connections v a) ≡ 0
      answer_0 = sym (keeps.answer_by_rows t.state q a kept.sound read) ∙ passed-0 e

      -- what is told of the deadline is no later than the entry's
      told-before :
          (place : ℕ) (c : Connection) → c.stage ≡ stage_of (p ∷ t.history) →
          c.deadline ≡ used a + life_of c.stage →
          (after_segment M t q place p).until ≤ c.deadline
      told-before place c stage deadline =
          let given = ap clock_in read in
          let next : next_clock M t q ≡ max (clock_in (M.reads q)) t.pass_clock = when-true _ _ _ e in
          let told-then : (after_segment M t q place p).until ≡ next_clock M t q + life_of (stage_of (p ∷ t.history)) = when-true _ _ _ e in
          let life = ap life_of stage in
          omega (arith, given, next, told-then, life, deadline, kept.clock)

      -- the entry that it leaves, of a connection that holds the history with it on top
      segment-kept :
          (place spot : ℕ) (c : Connection) → M.number spot ≡ place →
          OurEntry P (M.view (M.run t.state q).next) spot c → OthersExpired P (M.view (M.run t.state q).next) spot →
          Holds c (p ∷ t.history) → Heard P (p ∷ t.history) →
          c.deadline ≡ used a + life_of c.stage →
          Table-kept (after_segment M t q place p)
      segment-kept place spot c numbered ours others holds heard deadline =
          let more : (when passes M t q then p ∷ t.history else t.history) ≡ p ∷ t.history = when-true _ _ _ e in
          record {
            sound = keeps.sound_kept t.state q kept.sound;
            clock = clock-after (asked a read e) e;
            phase = alive refl c record {
              place = spot;
              numbered = numbered;
              ours = ours;
              others = others;
              holds = rw more holds;
              heard = rw more heard;
              told-early = told-before place c holds.stage deadline;
            };
          }

      -- the opening
      pub opening-kept :
          a.segment ≡ on_wire p → AskOf P 0 a → p.from ≡ 0 → p.flags ≡ SYN → Formed p → p.start ≡ P.start 0 → t.history ≡ [] →
          rows.search connections v (used a) a.side a.key ≡ None →
          Table-kept (after_segment M t q (M.run t.state q).place p)
      opening-kept brings asked-0 opener a-syn formed begins none unfound =
          let made = opening-made P known v sound-before a asked-0 unfound answer_0 in
          let c : Connection = opened P.side a.segment (used a) in
          let renewed = opened-renewed P.side a.segment (used a) in
          let holds : Holds (opened P.side a.segment (used a)) (p ∷ t.history) =
          rw (brings, none) (opened-holds p opener a-syn formed P.side (used a)) in
          let end = ap (λ (n : Numbers). n.end) (opener-begins p opener a-syn formed) in
          let heard : Heard P (p ∷ t.history) = rw none (quiet (opened-unanswered p opener a-syn formed) (omega (arith, end, begins))) in
          let place = keeps.place_by_rows t.state q a kept.sound read ∙ ap (place_by M.number) made.is in
          let table = keeps.view_by_rows t.state q a kept.sound read ∙ ap (after connections v) made.is in
          segment-kept (M.run t.state q).place made.place c (sym place) (rw table made.ours) (rw table made.others)
          holds heard renewed.0

      -- a reset on the live entry: from stage 2 on what it leaves holds the history with it on top, in stage 1 it frees
      pub reset-kept :
          (c : Connection) (al : Alive t c) → rst a.segment.flags ≡ 1 → rst p.flags ≡ 1 →
          ((r : ℕ) → rows.search connections v (used a) a.side a.key ≡ Some r → (now : ℕ) (entry : Entry connections) →
          filter connections v a ≡ Passes r now entry → r ≡ al.place) →
          t.opening_seen ≡ true →
          Table-kept (after_segment M t q t.place p)
      reset-kept c al is_reset on-top at-ours opened-t = go al.heard
        where
          go : Heard P t.history → Table-kept (after_segment M t q t.place p)
          go (quiet u begun) =
              let gone : life_of (stage_of (p ∷ t.history)) ≡ 0 = ap life_of (reset-freed t.history p on-top u.stage) ∙ life_of-outside 0 (λ some. omega arith) in
              let told-then : (after_segment M t q t.place p).until ≡ next_clock M t q + life_of (stage_of (p ∷ t.history)) = when-true _ _ _ e in
              record {
                sound = keeps.sound_kept t.state q kept.sound;
                clock = clock-after (asked a read e) e;
                phase = dead refl (omega (arith, told-then, gone));
              }
          go (both a2 begun) =
              let now : ℕ = used a in
              let later : 2 ≤ c.stage = omega (arith, al.holds.stage, a2.stage) in
              let left = reset-on-ours P known v sound-before al.place c a al.ours answer_0 at-ours is_reset later in
              let renewed : Renewed c now (reset c now) = reset-renewed c now in
              let table = keeps.view_by_rows t.state q a kept.sound read ∙ ap (after connections v) left in
              let r = pass-on-ours P known v sound-before al.place c (reset c now) now al.ours al.others (omega arith) (renewed.side ∙ al.ours.our-side) in
              segment-kept t.place al.place (reset c now) al.numbered (rw table r.0) (rw table r.1)
              (reset-holds t.history p on-top a2 c al.holds now)
              (both (reset-answered t.history p on-top a2) (λ i i-known. omega (arith, begun i i-known, (rises-more p t.history).end i)))
              renewed.deadline

    -- A reset that is no arrival

    foreign-reset :
        OnOurs M t q → brings_reset (M.reads q) ≡ true → Phase t → (r : Reading Ask) → M.reads q ≡ r →
        Table-kept (after_segment M t q t.place some_reset)
    foreign-reset on brings (before closed none) r is = false-true (sym closed ∙ on.after_opening)
    foreign-reset on brings (dead opened-t late) r is = absurd (omega (arith, late, on.live))
    foreign-reset on brings (alive opened-t c al) (refused n place) is = false-true (sym (ap asks_here is) ∙ on.here)
    foreign-reset on brings (alive opened-t c al) apart is = false-true (sym (ap asks_here is) ∙ on.here)
    foreign-reset on brings (alive opened-t c al) (asks a) is =
        reset-kept some_reset a is on.answered_0 c al (eqb-true _ _ (sym (ap brings_reset is) ∙ brings)) refl
        (λ r found now entry passed-there.
        keeps.numbers_differ r al.place
        (sym (ap (place_by M.number) passed-there) ∙ sym (keeps.place_by_rows t.state q a kept.sound is) ∙ on.place ∙ sym al.numbered))
        opened-t

    pub other-kept : (passed_on_ours M t q ≡ true → brings_reset (M.reads q) ≡ true) → Table-kept (after_call M t q other)
    unfolding after_call
    other-kept fair =
        when-cases Table-kept (passed_on_ours M t q && brings_reset (M.reads q)) _ _
        (λ resets.
        let r = &&-true (passed_on_ours M t q) (brings_reset (M.reads q)) resets in
        foreign-reset (on-ours-facts M t q r.0) r.1 kept.phase (M.reads q) refl)
        (λ not-reset. elsewhere-kept (λ ours-is. false-true (sym not-reset ∙ true-&& _ _ ours-is (fair ours-is))))

    -- An arrival at the live entry

    module _
        (p : LineSegment) (a : Ask) (read : M.reads q ≡ asks a) (brings : a.segment ≡ on_wire p) (asked-p : AskOf P p.from a)
        (no_reset : NoReset p) (c : Connection) (al : Alive t c) (live : Live M t q)
        (verdict : verdict_on c p.from (on_wire p) ≡ pass) where
      abbrev left-entry : Entry connections
      left-entry = ours P (passed c p.from (on_wire p) (used a))

      filter_passes : filter connections v a ≡ Passes al.place (used a) left-entry
      unfolding entry_with
      filter_passes =
          let now : ℕ = used a in
          let found = arrival-found P known v sound-before al.place p.from c a al.ours al.others asked-p (live_now c al a read live) in
          let in_use = (passed-renewed c p.from (on_wire p) now (λ is. absurd (no_reset is))).life in
          let sender : sender_of connections (ours P c) a.side ≡ p.from = found.1 in
          on_segment-by-search connections v now a.side a.key a.segment _ found.0
          ∙ ap (λ (e : Entry connections). on_entry connections e al.place now a.side a.segment) al.ours.there
          ∙ on_entry-by-verdict connections (ours P c) al.place now a.side a.segment pass (rw (sender, brings) verdict)
          ∙ ap (Passes al.place now) ((λ n. entry_after connections (ours P c) (sender n) (brings n) now) ∙ when-=-not _ _ (in-use-stage _ in_use))

      answer-is-0 : (M.run t.state q).answer ≡ 0
      answer-is-0 = keeps.answer_by_rows t.state q a kept.sound read ∙ ap (answer_of connections) filter_passes

      place-is-ours : (M.run t.state q).place ≡ t.place
      place-is-ours = keeps.place_by_rows t.state q a kept.sound read ∙ ap (place_by M.number) filter_passes ∙ al.numbered

      arrival-passes : passes M t q ≡ true
      unfolding passes
      arrival-passes = eq-eqb _ _ answer-is-0

      arrival-kept :
          ((now : ℕ) → Holds (passed c p.from (on_wire p) now) (p ∷ t.history)) → Heard P (p ∷ t.history) →
          Table-kept (after_segment M t q t.place p)
      arrival-kept holds_after heard-after =
          let c' : Connection = passed c p.from (on_wire p) (used a) in
          let renewed = passed-renewed c p.from (on_wire p) (used a) (λ is. absurd (no_reset is)) in
          let table = keeps.view_by_rows t.state q a kept.sound read ∙ ap (after connections v) filter_passes in
          let side = renewed.side ∙ al.ours.our-side in
          let r = pass-on-ours P known v sound-before al.place c c' (used a) al.ours al.others (omega arith) side in
          segment-kept p a read arrival-passes t.place al.place c' al.numbered (rw table r.0) (rw table r.1)
          (holds_after (used a)) heard-after renewed.deadline

  -- The events, one by one

  in-more : (p g : LineSegment) (h : List LineSegment) (b : Bool) → ((p ≡ g) × (b ≡ true)) ⊎ In p h → In p (when b then g ∷ h else h)
  unfolding when◌then◌else◌
  in-more p g h true one = ⊎_elim (λ (new : (p ≡ g) × (true ≡ true)). inl new.0) (λ (old : In p h). inr old) one
  in-more p g h false one = ⊎_elim (λ (new : (p ≡ g) × (false ≡ true)). false-true new.1) (λ (old : In p h). old) one

  -- what has passed is in the history
  passed-in : (k : ℕ) (p : LineSegment) (L : List (Event M.Call)) → WasPassed M s₀ k p L → In p (told M s₀ L).history
  unfolding told after_call
  passed-in k p [] none = absurd none
  passed-in k p (send g ∷ L) was = passed-in k p L was
  passed-in k p (call q (opening j g) ∷ L) was =
      in-more p g (told M s₀ L).history (passes M (told M s₀ L) q) (⊎_elim (λ new. inl (new.0.1, new.1)) (λ old. inr (passed-in k p L old)) was)
  passed-in k p (call q (arrival j g) ∷ L) was =
      in-more p g (told M s₀ L).history (passes M (told M s₀ L) q) (⊎_elim (λ new. inl (new.0.1, new.1)) (λ old. inr (passed-in k p L old)) was)
  passed-in k p (call q other ∷ L) was =
      let old = passed-in k p L (⊎_elim (λ never. absurd never.0) (λ old. old) was) in
      when-either (λ (t : Told M). In p t.history) _ _ _ (in-more p some_reset (told M s₀ L).history (passes M (told M s₀ L) q) (inr old)) old
  passed-in k p (delivery j g ∷ L) was = passed-in k p L was

  start : Sound s₀ → Inv []
  unfolding told received_by
  start sound = record {
    table = record { sound = sound; clock = refl; phase = before refl refl };
    protocol = record {
      senders-known = λ k p s none. absurd none;
      facts = λ k p s none. absurd none;
      order = λ k p s k' p' s' none. absurd none;
      received = λ i p none. absurd none;
      arrived = λ k p none. absurd none;
      passed = λ p none. absurd none;
    };
  }

  after-send : (p : LineSegment) (L : List (Event M.Call)) → Inv L → Honest P p L → Inv (send p ∷ L)
  unfolding told
  after-send p L inv honest = record {
    table = inv.table;
    protocol = protocol-sent P (told M s₀ L).history (λ k g. Arrived k g L) L inv.protocol p honest.formed (sending P p L honest.allowed);
  }

  after-delivery : (k : ℕ) (p : LineSegment) (L : List (Event M.Call)) → Inv L → WasPassed M s₀ k p L → Inv (delivery k p ∷ L)
  unfolding told
  after-delivery k p L inv was = record {
    table = inv.table;
    protocol = protocol-delivered P (told M s₀ L).history (λ j g. Arrived j g L) L k p inv.protocol (passed-in k p L was);
  }

  -- a call that is no arrival leaves what has arrived
  none-arrived :
      (h : List LineSegment) (q : M.Call) (L : List (Event M.Call)) → Protocol P h (λ j g. Arrived j g L) (call q other ∷ L) →
      Protocol P h (λ j g. Arrived j g (call q other ∷ L)) (call q other ∷ L)
  none-arrived h q L pr = record {
    senders-known = pr.senders-known;
    facts = pr.facts;
    order = pr.order;
    received = pr.received;
    arrived = λ k p a. ⊎_elim (λ never. absurd never) (λ old. pr.arrived k p old) a;
    passed = λ p there none. let r = pr.passed p there none in (r.0, inr r.1);
  }

  after-other : (q : M.Call) (L : List (Event M.Call)) → Inv L → FairCall M s₀ P other q L → Inv (call q other ∷ L)
  unfolding told after_call
  after-other q L inv fair = record {
    table = other-kept (told M s₀ L) inv.table q fair;
    protocol =
        when-cases (λ (t : Told M). Protocol P t.history (λ j g. Arrived j g (call q other ∷ L)) (call q other ∷ L))
        (passed_on_ours M (told M s₀ L) q && brings_reset (M.reads q)) _ _
        (λ resets.
        let on = on-ours-facts M (told M s₀ L) q (&&-true (passed_on_ours M (told M s₀ L) q) (brings_reset (M.reads q)) resets).0 in
        rw (when-true (passes M (told M s₀ L) q) (some_reset ∷ (told M s₀ L).history) (told M s₀ L).history on.answered_0)
        (none-arrived _ q L (protocol-reset P (told M s₀ L).history (λ j g. Arrived j g L) L inv.protocol q other some_reset refl)))
        (λ _. none-arrived _ q L (protocol-called P (told M s₀ L).history (λ j g. Arrived j g L) L inv.protocol q other));
  }

  -- a segment of the pair's, passed
  protocol-after :
      (q : M.Call) (l : Label) (k : ℕ) (p : LineSegment) (L : List (Event M.Call)) → Inv L → Sent k p L →
      passes M (told M s₀ L) q ≡ true → (place : ℕ) →
      Protocol P (after_segment M (told M s₀ L) q place p).history (λ j g. ((j ≡ k) × (g ≡ p)) ⊎ Arrived j g L) (call q l ∷ L)
  protocol-after q l k p L inv sent e place =
      let with-s = sent-with k p L sent in
      rw (when-true (passes M (told M s₀ L) q) (p ∷ (told M s₀ L).history) (told M s₀ L).history e)
      (protocol-passed P (told M s₀ L).history (λ j g. Arrived j g L) L inv.protocol q l k p with-s.0 with-s.1)

  after_opening :
      (q : M.Call) (k : ℕ) (p : LineSegment) (L : List (Event M.Call)) → Inv L → Opening M s₀ P k p q L →
      Inv (call q (opening k p) ∷ L)
  unfolding told after_call
  after_opening q k p L inv o = record {
    table = by-phase inv.table.phase;
    protocol = protocol-after q (opening k p) k p L inv o.arrives.sent o.answered_0 (M.run (told M s₀ L).state q).place;
  }
    where
      w : (s : ℕ) × SentWith k p s L
      w = sent-with k p L o.arrives.sent

      f : Fact P (told M s₀ L).history p w.0 L
      f = inv.protocol.facts k p w.0 w.1 (λ is. omega (arith, o.is_syn))

      -- nothing has passed, so nothing was received, and what is sent is a SYN
      is-first : (told M s₀ L).history ≡ [] → First P p w.0
      is-first none =
          ⊎_elim (λ (x : First P p w.0). x)
          (λ (y : Later p w.0 L).
          let r = answered-in p.from L f.end_known y.answered-now in
          absurd (subst (In r.0) none (inv.protocol.received p.from r.0 r.1).0))
          f.kind

      by-phase : Phase (told M s₀ L) → Table-kept (after_segment M (told M s₀ L) q (M.run (told M s₀ L).state q).place p)
      by-phase (dead opened-t late) = false-true (sym o.first_one ∙ opened-t)
      by-phase (alive opened-t c al) = false-true (sym o.first_one ∙ opened-t)
      by-phase (before closed none) =
          let x = is-first none in
          opening-kept (told M s₀ L) inv.table q p _ o.arrives.brings o.answered_0 refl
          record { end = omega arith; side = ap (side_of P) o.by_opener; key = ap (key_of P) o.by_opener }
          o.by_opener o.is_syn f.formed (x.rule.start ∙ ap P.start o.by_opener) none o.finds_none

  abbrev Good : (q : M.Call) (k : ℕ) (p : LineSegment) (L : List (Event M.Call)) → Type 0
  Good q k p L = ((said M s₀ L q).answer ≡ 0) × ((said M s₀ L q).place ≡ (told M s₀ L).place) × Inv (call q (arrival k p) ∷ L)

  module _
      (q : M.Call) (k : ℕ) (p : LineSegment) (L : List (Event M.Call)) (inv : Inv L) (r : Arrival M s₀ P overtaking_allowance k p q L)
      (c : Connection) (al : Alive (told M s₀ L) c) where
    abbrev a : Ask
    a = bringing P p r.arrives.clock

    w : (s : ℕ) × SentWith k p s L
    w = sent-with k p L r.arrives.sent

    asked-p : AskOf P p.from a
    asked-p = record { end = inv.protocol.senders-known k p w.0 w.1; side = refl; key = refl }

    -- a reset passes by itself
    after-reset : rst p.flags ≡ 1 → Good q k p L
    unfolding told after_call passes
    after-reset is_reset =
        let passed = r.reset_passes is_reset in
        let v = M.view (told M s₀ L).state in
        let found = (arrival-found P known v (sound-before (told M s₀ L) inv.table q) al.place p.from c a
        al.ours al.others asked-p (live_now (told M s₀ L) inv.table q c al a r.arrives.brings r.live)).0 in
        let sound = inv.table.sound in
        let answer = sym (keeps.answer_by_rows (told M s₀ L).state q a sound r.arrives.brings) ∙ eqb-true _ _ passed in
        let place = keeps.place_by_rows (told M s₀ L).state q a sound r.arrives.brings in (
          eqb-true _ _ passed,
          place ∙ found-place P v M.number al.place a found answer ∙ al.numbered,
          record {
            table = reset-kept (told M s₀ L) inv.table q p a r.arrives.brings passed c al is_reset is_reset
                (λ at found-there now entry left_there. let same : Some at ≡ Some al.place = sym found-there ∙ found in cc) r.after_opening;
            protocol = protocol-after q (arrival k p) k p L inv r.arrives.sent passed (told M s₀ L).place;
          },
        )

    -- an honest segment by the bounds
    after-segment : NoReset p → Good q k p L
    unfolding told after_call
    after-segment no_reset =
        let x =
        passing P (told M s₀ L).history (λ j g. Arrived j g L) L inv.protocol c al.holds k p w.0 w.1 no_reset
        (λ j g was mine none later-sent.
        let o = r.order (omega (arith, no_reset)) j g was mine none (omega (arith, later-sent)) in
        let same : highest_ack_at_sending g.from j L ≡ highest_ack_at_sending p.from j L = ap (λ (i : ℕ). highest_ack_at_sending i j L) mine in
        record { sent_while = omega (arith, o.sent_while); acks_near = omega (arith, o.acks_near) })
        al.heard in (
          answer-is-0 (told M s₀ L) inv.table q p a r.arrives.brings refl asked-p no_reset c al r.live x.verdict,
          place-is-ours (told M s₀ L) inv.table q p a r.arrives.brings refl asked-p no_reset c al r.live x.verdict,
          record {
            table = arrival-kept (told M s₀ L) inv.table q p a r.arrives.brings refl asked-p no_reset c al r.live x.verdict
                x.holds_after x.heard-after;
            protocol = protocol-after q (arrival k p) k p L inv r.arrives.sent
                (arrival-passes (told M s₀ L) inv.table q p a r.arrives.brings refl asked-p no_reset c al r.live x.verdict)
                (told M s₀ L).place;
          },
        )

  after-arrival : (q : M.Call) (k : ℕ) (p : LineSegment) (L : List (Event M.Call)) → Inv L → Arrival M s₀ P overtaking_allowance k p q L → Good q k p L
  after-arrival q k p L inv r = by-phase inv.table.phase
    where
      by-phase : Phase (told M s₀ L) → Good q k p L
      by-phase (before closed none) = false-true (sym closed ∙ r.after_opening)
      by-phase (dead opened-t late) = absurd (omega (arith, late, r.live))
      by-phase (alive opened-t c al) =
          ⊎_elim (λ is. after-reset q k p L inv r c al (eqb-true _ _ is)) (λ none. after-segment q k p L inv r c al (eqb-false _ _ none))
          (true-or-false (is_reset p.flags))

  -- The theorem

  kept-along : Sound s₀ → (L : List (Event M.Call)) → Legal M s₀ P L → Inv L × NeverBlocked M s₀ L
  kept-along sound [] legal = (start sound, tt)
  kept-along sound (send p ∷ L) legal =
      let r = kept-along sound L legal.1 in (after-send p L r.0 legal.0, r.1)
  kept-along sound (call q (opening k p) ∷ L) legal =
      let r = kept-along sound L legal.1 in (after_opening q k p L r.0 legal.0, r.1)
  kept-along sound (call q (arrival k p) ∷ L) legal =
      let r = kept-along sound L legal.1 in
      let a = after-arrival q k p L r.0 legal.0 in
      (a.2, (a.0, a.1, r.1))
  kept-along sound (call q other ∷ L) legal =
      let r = kept-along sound L legal.1 in (after-other q L r.0 legal.0, r.1)
  kept-along sound (delivery k p ∷ L) legal =
      let r = kept-along sound L legal.1 in (after-delivery k p L r.0 legal.0, r.1)

-- nothing is asked of a call on another part of the table
pub apart-fair :
    (M : Machine) (s₀ : M.State) (P : Pair) (q : M.Call) (L : List (Event M.Call)) → M.reads q ≡ apart →
    FairCall M s₀ P other q L
apart-fair M s₀ P q L is = λ ours-is. false-true (sym (ap asks_here is) ∙ (on-ours-facts M (told M s₀ L) q ours-is).here)

-- two honest ends are never blocked
pub demand3 : (M : Machine) (Sound : M.State → Type 0) → KeepsTo M Sound → Demand3 M Sound
demand3 M Sound keeps s₀ sound P known L legal = (kept-along M Sound keeps s₀ P known sound L legal).1
