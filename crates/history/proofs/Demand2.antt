-- Demand 2 for one connection.
use Prim.Native.Nat.{ℕ, zero, suc, ◌+◌, ◌-◌, ◌^◌, ◌<◌, ◌≤◌}
use mathlib.Core.Path.{◌≡◌, refl, ap, ◌∙◌}
use mathlib.Core.Bool.{Bool, true, false}
use mathlib.Core.Logic.{◌⊎◌, inl, inr, ⊎_elim}
use mathlib.Core.List.{List, [], ◌∷◌}
use native.Mathlib.Omega.{arith}
use lib.Dec.{eqb}
use borrow.Author.Tests.{eqb-true, eqb-false}
use Rattle.std.specs.Prelude.{Ok, Err}
use Rattle.choice.specs.Choice.{when◌then◌else◌}
use Rattle.choice.proofs.Choice.{when-=, when-=-not, when-≤-not}
use Rattle.serial.specs.Ring.{wrap, nearest}
use Rattle.serial.proofs.Ring.{wrap-id, wrap-turn, wrap-nearest, nearest-near}
use Rattle.segment.specs.Flags.{rst, SYN}
use Rattle.segment.specs.declared.Segment.{Segment}
use Rattle.connection.specs.Decision.{Verdict, pass, verdict_on, free, opened, passed}
use Rattle.connection.specs.declared.Connection.{Connection}
use Rattle.connection.specs.declared.SegmentError.TheVariants.{NotAllowed, SequenceMissed, AckMissed}
use Rattle.history.specs.Numbers.{Numbers}
use Rattle.history.specs.History.{LineSegment, numbers_of, on_wire, stage_of, stands_by, placed_by, placed, judge, Holds, Formed, Placeable}
use Rattle.history.specs.Demand2.{Presented, Presentable, AllPresentable, on_line, answer_to, judged_over, left_by, is_pass, connection_after, history_after, NoneFreed, opening_history, Agree, Demand2OfConnection}
use Rattle.history.proofs.Step.{Near}
use Rattle.history.proofs.Verdict.{Unanswered, Answered, judged-answered, judged-unanswered}
use Rattle.history.proofs.Pass.{opener-begins, opened-unanswered, opened-holds, answerer-begins, carried-holds, carried-answered, reset-holds, reset-answered, passed-reset, repeated-holds, repeated-unanswered, answered-holds, answered-answered}

-- Where a segment stands

-- an end's line has not begun, or is a turn up
abbrev Up : ℕ → Type 0
Up E = (E ≡ 0) ⊎ (2 ^ 32 ≤ E)

pub stands-nearest : (E s : ℕ) → 2 ^ 32 ≤ E → stands_by E s ≡ nearest E s
stands-nearest E s turned = when-=-not _ _ (λ (z : E ≡ 0). omega arith)

pub wrap-stands : (E s : ℕ) → Up E → s < 2 ^ 32 → wrap (stands_by E s) ≡ s
wrap-stands E s up fits =
    ⊎_elim
    (λ (none : E ≡ 0). rw (when-= {a = E} {b = 0} (s + 2 ^ 32) (nearest E s) none) (wrap-turn s ∙ wrap-id s fits))
    (λ (turned : 2 ^ 32 ≤ E). rw (stands-nearest E s turned) (wrap-nearest E s (omega arith) fits))
    up

pub stands-near : (E s : ℕ) → 2 ^ 32 ≤ E → Near E (stands_by E s)
stands-near E s turned =
    rw (stands-nearest E s turned) record { low = (nearest-near E s (omega arith)).0; high = (nearest-near E s (omega arith)).1 }

-- on the wire again, it is the segment that was offered
pub on_wire-placed_by : (E E' i : ℕ) (g : Segment) → Placeable g → Up E → Up E' → on_wire (placed_by E E' i g) ≡ g
on_wire-placed_by E E' i g r up up' =
    let seq = wrap-stands E g.seq.0 up r.seq_fits in
    let ack = wrap-stands E' g.ack.0 up' r.ack_fits in
    λ k. record { seq = record { 0 = seq k }; ack = record { 0 = ack k }; window = g.window; flags = g.flags; octets = g.octets }

pub placed-formed : (E E' i : ℕ) (g : Segment) → Placeable g → Formed (placed_by E E' i g)
placed-formed E E' i g r = record { window_fits = r.window_fits; syn_alone = r.syn_alone }

-- a history that a connection has come to
pub data Reached (h : List LineSegment) : Type 0 where
  unanswered : Unanswered h → 2 ^ 32 ≤ (numbers_of 0 h).end → Reached h
  answered : Answered h → ((i : ℕ) → i < 2 → 2 ^ 32 ≤ (numbers_of i h).end) → Reached h

reached-up : (h : List LineSegment) → Reached h → (i : ℕ) → i < 2 → Up (numbers_of i h).end
reached-up h (unanswered u turned) zero s = inr turned
reached-up h (unanswered u turned) (suc zero) s = inl (ap (λ (x : Numbers). x.end) u.unheard)
reached-up h (unanswered u turned) (suc (suc i)) s = absurd (omega arith)
reached-up h (answered a turned) i s = inr (turned i s)

pub pick_two : (P : ℕ → Type 0) → P 0 → P 1 → (i : ℕ) → i < 2 → P i
pick_two P a b zero s = a
pick_two P a b (suc zero) s = b
pick_two P a b (suc (suc i)) s = absurd (omega arith)

-- an end never falls
numbers-rise : (i : ℕ) (p : LineSegment) (h : List LineSegment) → (numbers_of i h).end ≤ (numbers_of i (p ∷ h)).end
unfolding numbers_of
numbers-rise i p h = omega arith

module _ (c : Connection) (h : List LineSegment) (holds : Holds c h) (reached : Reached h) (o : Presented) (legal : Presentable o) where
  wire : on_wire (on_line h o) ≡ o.segment
  wire =
      on_wire-placed_by (numbers_of o.sender h).end (numbers_of (1 - o.sender) h).end o.sender o.segment legal.placeable
      (reached-up h reached o.sender legal.sender_known) (reached-up h reached (1 - o.sender) (omega arith))

  formed : Formed (on_line h o)
  formed = placed-formed (numbers_of o.sender h).end (numbers_of (1 - o.sender) h).end o.sender o.segment legal.placeable

  judged-on-wire : Reached h → verdict_on c o.sender (on_wire (on_line h o)) ≡ judge h (on_line h o)
  judged-on-wire (unanswered u turned) =
      judged-unanswered c h holds (on_line h o) legal.sender_known u
      (λ (e : o.sender ≡ 0). rw e (stands-near (numbers_of 0 h).end o.segment.seq.0 turned))
      (λ (e : o.sender ≡ 1). rw e (stands-near (numbers_of 0 h).end o.segment.ack.0 turned))
  judged-on-wire (answered a turned) =
      judged-answered c h holds (on_line h o) legal.sender_known a
      (stands-near (numbers_of o.sender h).end o.segment.seq.0 (turned o.sender legal.sender_known))
      (λ acks. stands-near (numbers_of (1 - o.sender) h).end o.segment.ack.0 (turned (1 - o.sender) (omega arith)))

  -- the answer is the judgement
  pub judged : verdict_on c o.sender o.segment ≡ judge h (on_line h o)
  judged = rw wire at (judged-on-wire reached)

  -- a reset from stage 2 on
  reset-reached : Reached h → 2 ≤ stage_of h → rst o.segment.flags ≡ 1 → Holds (left_by c o) (on_line h o ∷ h) × Reached (on_line h o ∷ h)
  reset-reached (unanswered u turned) later is_reset = absurd (omega (arith, u.stage, later))
  reset-reached (answered a turned) later is_reset =
      let left = passed-reset c o.sender o.segment o.now is_reset (omega (arith, holds.stage, later)) in (
        rw left (reset-holds h (on_line h o) is_reset a c holds o.now),
        answered (reset-answered h (on_line h o) is_reset a) (λ i s. omega (arith, turned i s, numbers-rise i (on_line h o) h)),
      )

  -- a pass that is no reset
  module _ (no_reset : rst o.segment.flags ≡ 1 → ⊥) (passes : judge h (on_line h o) ≡ pass) where
    -- a line that begins, begins a turn up
    begins-up : Unanswered h → o.sender ≡ 1 → 2 ^ 32 ≤ (numbers_of 1 (on_line h o ∷ h)).end
    begins-up u answerer =
        let start : (on_line h o).start ≡ o.segment.seq.0 + 2 ^ 32 =
        when-= _ _ (ap (λ (i : ℕ). (numbers_of i h).end) answerer ∙ ap (λ (x : Numbers). x.end) u.unheard) in
        let end = ap (λ (x : Numbers). x.end) (answerer-begins c h holds (on_line h o) formed passes u answerer no_reset) in
        omega (arith, start, end)

    on-wire-holds : Reached h → Holds (passed c o.sender (on_wire (on_line h o)) o.now) (on_line h o ∷ h) × Reached (on_line h o ∷ h)
    on-wire-holds (unanswered u turned) = by-sender (eqb o.sender 0) refl
      where
        by-sender :
            (t : Bool) → eqb o.sender 0 ≡ t →
            Holds (passed c o.sender (on_wire (on_line h o)) o.now) (on_line h o ∷ h) × Reached (on_line h o ∷ h)
        by-sender true e =
            let opener = eqb-true o.sender 0 e in (
              repeated-holds c h holds (on_line h o) formed passes u opener o.now,
              unanswered (repeated-unanswered c h holds (on_line h o) formed passes u opener) (omega (arith, turned, numbers-rise 0 (on_line h o) h)),
            )
        by-sender false e =
            let answerer : o.sender ≡ 1 = omega (arith, eqb-false o.sender 0 e, legal.sender_known) in (
              answered-holds c h holds (on_line h o) formed passes u answerer no_reset o.now,
              answered (answered-answered c h holds (on_line h o) formed passes u answerer no_reset)
                  (pick_two (λ i. 2 ^ 32 ≤ (numbers_of i (on_line h o ∷ h)).end) (omega (arith, turned, numbers-rise 0 (on_line h o) h)) (begins-up u answerer)),
            )
    on-wire-holds (answered a turned) = (
      carried-holds c h holds (on_line h o) legal.sender_known formed no_reset passes a o.now,
      answered (carried-answered c h holds (on_line h o) legal.sender_known formed no_reset passes a)
          (λ i s. omega (arith, turned i s, numbers-rise i (on_line h o) h)),
    )

    carried-reached : Holds (left_by c o) (on_line h o ∷ h) × Reached (on_line h o ∷ h)
    carried-reached = rw wire at (on-wire-holds reached)

  -- a pass that does not free
  pub pass-holds :
      (rst o.segment.flags ≡ 1 → 2 ≤ stage_of h) → judge h (on_line h o) ≡ pass →
      Holds (left_by c o) (on_line h o ∷ h) × Reached (on_line h o ∷ h)
  pass-holds kept passes = by-reset (eqb (rst o.segment.flags) 1) refl
    where
      by-reset : (t : Bool) → eqb (rst o.segment.flags) 1 ≡ t → Holds (left_by c o) (on_line h o ∷ h) × Reached (on_line h o ∷ h)
      by-reset true e = let is_reset = eqb-true _ _ e in reset-reached reached (kept is_reset) is_reset
      by-reset false e = carried-reached (eqb-false _ _ e) passes

-- a reset in stage 1 frees
pub reset-frees : (c : Connection) (i : ℕ) (g : Segment) (now : ℕ) → c.stage ≡ 1 → rst g.flags ≡ 1 → passed c i g now ≡ free
unfolding passed
reset-frees c i g now first is_reset = let below : c.stage < 2 = omega arith in when-= _ _ is_reset ∙ when-≤-not _ _ below

-- The theorem, from any history reached

module _ (c : Connection) (h : List LineSegment) (holds : Holds c h) (reached : Reached h) (o : Presented) (legal : Presentable o) where
  module _ (kept : judged_over h o ≡ pass → rst o.segment.flags ≡ 1 → 2 ≤ stage_of h) where
    by_answer :
        (v : Verdict) → judged_over h o ≡ v →
        let h' = when is_pass v then on_line h o ∷ h else h in Holds (when is_pass v then left_by c o else c) h' × Reached h'
    unfolding when◌then◌else◌
    by_answer (Ok x) e = pass-holds c h holds reached o legal (kept e) e
    by_answer (Err NotAllowed) e = (holds, reached)
    by_answer (Err SequenceMissed) e = (holds, reached)
    by_answer (Err AckMissed) e = (holds, reached)

    step : let h' = when is_pass (judged_over h o) then on_line h o ∷ h else h in Holds (when is_pass (answer_to c o) then left_by c o else c) h' × Reached h'
    step = rw (judged c h holds reached o legal) (by_answer (judged_over h o) refl)

  pub agree : Agree c h o
  agree = record {
    holds = holds;
    answer = judged c h holds reached o legal;
    freed = λ passes first. reset-frees c o.sender o.segment o.now (holds.stage ∙ first);
  }

pub after-all :
    (c : Connection) (h : List LineSegment) → Holds c h → Reached h → (l : List Presented) → AllPresentable l → NoneFreed h l →
    Holds (connection_after c l) (history_after h l) × Reached (history_after h l)
unfolding AllPresentable NoneFreed connection_after history_after
after-all c h holds reached [] legal none-freed = (holds, reached)
after-all c h holds reached (o ∷ l) legal none-freed =
    let before = after-all c h holds reached l legal.1 none-freed.0 in
    step (connection_after c l) (history_after h l) before.0 before.1 o legal.0 none-freed.1

-- From an opening

module _ (side : ℕ) (g : Segment) (now : ℕ) (r : Placeable g) (a-syn : g.flags ≡ SYN) where
  formed-first : Formed (placed [] 0 g)
  formed-first = placed-formed (numbers_of 0 []).end (numbers_of 1 []).end 0 g r

  pub holds-first : Holds (opened side g now) (opening_history g)
  unfolding numbers_of
  holds-first =
      rw (on_wire-placed_by (numbers_of 0 []).end (numbers_of 1 []).end 0 g r (inl refl) (inl refl)) at
      (opened-holds (placed [] 0 g) refl a-syn formed-first side now)

  pub reached-first : Reached (opening_history g)
  unfolding numbers_of
  reached-first =
      let up : (placed [] 0 g).start ≡ g.seq.0 + 2 ^ 32 = when-= {a = 0} {b = 0} _ _ refl in
      let end = ap (λ (x : Numbers). x.end) (opener-begins (placed [] 0 g) refl a-syn formed-first) in
      unanswered (opened-unanswered (placed [] 0 g) refl a-syn formed-first) (omega (arith, up, end))

pub demand2-of-connection : Demand2OfConnection
demand2-of-connection side g now r a-syn l legal none-freed o next =
    let k = after-all (opened side g now) (opening_history g) (holds-first side g now r a-syn) (reached-first side g now r a-syn) l legal none-freed in
    agree (connection_after (opened side g now) l) (history_after (opening_history g) l) k.0 k.1 o next
