-- A pass: the connection that it leaves holds the history with the segment on top.
use Prim.Native.Nat.{ℕ, zero, suc, ◌+◌, ◌-◌, ◌<◌, ◌≤◌, max}
use mathlib.Core.Path.{◌≡◌, refl, sym, ap, ◌∙◌}
use mathlib.Core.Bool.{Bool, true, false, ◌&&◌, ◌||◌, not, and-false}
use mathlib.Core.List.{List, [], ◌∷◌}
use native.Mathlib.Omega.{arith}
use lib.Dec.{eqb}
use borrow.Author.Tests.{eq-eqb, ne_eqb, eqb-true, eqb-false, leb-true}
use Rattle.std.specs.Prelude.{Err}
use Rattle.choice.specs.Choice.{when◌then◌else◌, ◌≤ᵇ◌, ◌=ᵇ◌, ◌≠ᵇ◌}
use Rattle.choice.proofs.Choice.{when-true, when-false, when-either, when-=, when-=-not, when-≠, when-≠-not, when-≤, when-≤-not}
use Rattle.choice.proofs.Tests.{false-true, &&-true}
use Rattle.serial.specs.Ring.{wrap}
use Rattle.serial.proofs.Ring.{wrap-plus}
use Rattle.segment.specs.Flags.{fin, syn, rst, ack, SYN, SYN+ACK, ACK+RST}
use Rattle.segment.specs.declared.Segment.{Segment}
use Rattle.connection.specs.Ends.{unheard, sender, sent, granted, begun, ends_after}
use Rattle.connection.specs.Ranges.{ack_range}
use Rattle.connection.specs.Stages.{fins_after, stage_after}
use Rattle.connection.specs.Decision.{pass, opened, repeated, answered, carried, reset, passed}
use Rattle.connection.specs.declared.Connection.{Connection}
use Rattle.connection.specs.declared.End.{End}
use Rattle.connection.specs.declared.SegmentError.TheVariants.{NotAllowed, SequenceMissed, AckMissed}
use Rattle.connection.proofs.Stages.{stage_after≥2}
use Rattle.history.specs.Numbers.{Numbers, on_ring, bounds_i_ii, bounds_iii_iv}
use Rattle.history.specs.History.{LineSegment, end_by, edge_by, window_by, numbers_of, on_wire, stage_of, fins_of, same_syn_on_line, reply_on_line, judge_unanswered, judge, Holds, Formed}
use Rattle.history.proofs.Step.{sent_to, granted_to, Spans, ack-near, ack_range-small, sent-line, granted-line, sent_to-spans, granted_to-spans}
use Rattle.history.proofs.Verdict.{Unanswered, Answered, spans}

-- The numbers with one more segment

module _ (h : List LineSegment) (p : LineSegment) (no_reset : rst p.flags ≡ 1 → ⊥) where
  counted : (i : ℕ) → p.from ≡ i → ((p.from =ᵇ i) && (rst p.flags ≠ᵇ 1)) ≡ true
  counted i e = rw (eq-eqb p.from i e, ne_eqb (rst p.flags) 1 no_reset)

  uncounted : (i : ℕ) → (p.from ≡ i → ⊥) → ((p.from =ᵇ i) && (rst p.flags ≠ᵇ 1)) ≡ false
  uncounted i e = rw (ne_eqb p.from i e)

  -- each is the larger of what it was and the segment's
  one_more :
      (i : ℕ) →
      numbers_of i (p ∷ h) ≡ record { end = max (numbers_of i h).end (end_by i p); edge = max (numbers_of i h).edge (edge_by i p); win = max (numbers_of i h).win (window_by i p) }
  unfolding numbers_of
  one_more i =
      let end : (numbers_of i (p ∷ h)).end ≡ max (numbers_of i h).end (end_by i p) = omega arith in
      let edge : (numbers_of i (p ∷ h)).edge ≡ max (numbers_of i h).edge (edge_by i p) = omega arith in
      let win : (numbers_of i (p ∷ h)).win ≡ max (numbers_of i h).win (window_by i p) = omega arith in
      λ k. record { end = end k; edge = edge k; win = win k }

  -- its sender's: a SYN's end is no further than the edge
  pub numbers-sender :
      (i : ℕ) → p.from ≡ i → p.start + p.length ≤ (numbers_of i h).edge →
      numbers_of i (p ∷ h) ≡ sent_to (numbers_of i h) (p.start + p.length) p.window
  numbers-sender i mine inside =
      let end : end_by i p ≡ p.start + p.length = when-true _ _ _ (counted i mine) in
      let win : window_by i p ≡ p.window = when-true _ _ _ (counted i mine) in
      let own : edge_by i p ≡ (when syn p.flags =ᵇ 1 then p.start + p.length else 0) = when-false _ _ _ (rw (ne_eqb (rst p.flags) 1 no_reset)) ∙ when-= _ _ mine in
      let edge : max (numbers_of i h).edge (edge_by i p) ≡ (numbers_of i h).edge = rw own (omega (arith, when-either (λ n. n ≤ (numbers_of i h).edge) (syn p.flags =ᵇ 1) (p.start + p.length) 0 inside (omega arith))) in
      one_more i ∙ λ k. record { end = ap (max (numbers_of i h).end) end k; edge = edge k; win = ap (max (numbers_of i h).win) win k }

  -- a SYN's sender's, whatever its edge was
  pub numbers-syn :
      (i : ℕ) → p.from ≡ i → syn p.flags ≡ 1 →
      numbers_of i (p ∷ h) ≡ record { end = max (numbers_of i h).end (p.start + p.length); edge = max (numbers_of i h).edge (p.start + p.length); win = max (numbers_of i h).win p.window }
  numbers-syn i mine a-syn =
      let end : end_by i p ≡ p.start + p.length = when-true _ _ _ (counted i mine) in
      let win : window_by i p ≡ p.window = when-true _ _ _ (counted i mine) in
      let edge : edge_by i p ≡ p.start + p.length = when-false _ _ _ (rw (ne_eqb (rst p.flags) 1 no_reset)) ∙ when-= _ _ mine ∙ when-= _ _ a-syn in
      one_more i ∙ λ k. record { end = ap (max (numbers_of i h).end) end k; edge = ap (max (numbers_of i h).edge) edge k; win = ap (max (numbers_of i h).win) win k }

  -- the other end's, by an acknowledgement and without one
  pub numbers-acked :
      (i : ℕ) → (p.from ≡ i → ⊥) → ack p.flags ≡ 1 →
      numbers_of i (p ∷ h) ≡ granted_to (numbers_of i h) (p.acked + max p.window 1)
  numbers-acked i theirs acks =
      let end : max (numbers_of i h).end (end_by i p) ≡ (numbers_of i h).end = ap (max (numbers_of i h).end) (when-false _ _ _ (uncounted i theirs)) ∙ omega arith in
      let win : max (numbers_of i h).win (window_by i p) ≡ (numbers_of i h).win = ap (max (numbers_of i h).win) (when-false _ _ _ (uncounted i theirs)) ∙ omega arith in
      let edge : edge_by i p ≡ p.acked + max p.window 1 = when-false _ _ _ (rw (ne_eqb (rst p.flags) 1 no_reset)) ∙ when-=-not _ _ theirs ∙ when-= _ _ acks in
      one_more i ∙ λ k. record { end = end k; edge = ap (max (numbers_of i h).edge) edge k; win = win k }

  pub numbers-unacked : (i : ℕ) → (p.from ≡ i → ⊥) → (ack p.flags ≡ 1 → ⊥) → numbers_of i (p ∷ h) ≡ numbers_of i h
  numbers-unacked i theirs silent =
      let end : max (numbers_of i h).end (end_by i p) ≡ (numbers_of i h).end = ap (max (numbers_of i h).end) (when-false _ _ _ (uncounted i theirs)) ∙ omega arith in
      let win : max (numbers_of i h).win (window_by i p) ≡ (numbers_of i h).win = ap (max (numbers_of i h).win) (when-false _ _ _ (uncounted i theirs)) ∙ omega arith in
      let edge : max (numbers_of i h).edge (edge_by i p) ≡ (numbers_of i h).edge = ap (max (numbers_of i h).edge) (when-false _ _ _ (rw (ne_eqb (rst p.flags) 1 no_reset)) ∙ when-=-not _ _ theirs ∙ when-=-not _ _ silent) ∙ omega arith in
      one_more i ∙ λ k. record { end = end k; edge = edge k; win = win k }

-- What is written, from what becomes of F and of T

pub ends_after-acked :
    (x y : ℕ → End) (i : ℕ) (g : Segment) → i < 2 → ack g.flags ≡ 1 → sent (x i) g ≡ y i → granted (x (1 - i)) g ≡ y (1 - i) →
    ends_after (x 0 ∷ x 1 ∷ []) i g ≡ y 0 ∷ y 1 ∷ []
unfolding ends_after
ends_after-acked x y zero g side acks f t = when-= _ _ acks ∙ λ k. f k ∷ t k ∷ []
ends_after-acked x y (suc zero) g side acks f t = when-= _ _ acks ∙ λ k. t k ∷ f k ∷ []
ends_after-acked x y (suc (suc i)) g side acks f t = absurd (omega arith)

pub ends_after-unacked :
    (x y : ℕ → End) (i : ℕ) (g : Segment) → i < 2 → (ack g.flags ≡ 1 → ⊥) → sent (x i) g ≡ y i → x (1 - i) ≡ y (1 - i) →
    ends_after (x 0 ∷ x 1 ∷ []) i g ≡ y 0 ∷ y 1 ∷ []
unfolding ends_after
ends_after-unacked x y zero g side silent f t = when-=-not _ _ silent ∙ λ k. f k ∷ t k ∷ []
ends_after-unacked x y (suc zero) g side silent f t = when-=-not _ _ silent ∙ λ k. t k ∷ f k ∷ []
ends_after-unacked x y (suc (suc i)) g side silent f t = absurd (omega arith)

spans-of-both : (x : ℕ → Numbers) (i : ℕ) → i < 2 → Spans (x i) → Spans (x (1 - i)) → Spans (x 0) × Spans (x 1)
spans-of-both x zero side f t = (f, t)
spans-of-both x (suc zero) side f t = (t, f)
spans-of-both x (suc (suc i)) side f t = absurd (omega arith)

-- From stage 2 on

-- a verdict of Pass says that the ranges were met
pub ranges-met :
    (x a y : Bool) → (when not x then Err SequenceMissed else when a && not y then Err AckMissed else pass) ≡ pass →
    (x ≡ true) × (a ≡ true → y ≡ true)
unfolding when◌then◌else◌
ranges-met true true true e = (refl, λ t. refl)
ranges-met true true false e = false-true cc
ranges-met true false y e = (refl, λ t. false-true t)
ranges-met false a y e = false-true cc

module _ (c : Connection) (h : List LineSegment) (holds : Holds c h) (p : LineSegment) (side : p.from < 2) (formed : Formed p) (no_reset : rst p.flags ≡ 1 → ⊥) (passes : judge h p ≡ pass) where
  module _ (open-h : Answered h) where
    F : Spans (numbers_of p.from h)
    F = spans h open-h p.from side

    T : Spans (numbers_of (1 - p.from) h)
    T = spans h open-h (1 - p.from) (omega arith)

    met : (bounds_i_ii (numbers_of p.from h) (numbers_of (1 - p.from) h) p.start p.length ≡ true) × (eqb (ack p.flags) 1 ≡ true → bounds_iii_iv ack_range (numbers_of (1 - p.from) h) p.acked ≡ true)
    unfolding judge
    met = ranges-met _ _ _ (sym (when-=-not _ _ (λ (e : stage_of h ≡ 1). omega (arith, open-h.stage))) ∙ passes)

    bounds : ((numbers_of p.from h).end ≤ p.start + (numbers_of (1 - p.from) h).win) × (p.start + p.length ≤ (numbers_of p.from h).edge)
    bounds =
        let b = &&-true (p.start + p.length ≤ᵇ (numbers_of p.from h).edge) ((numbers_of p.from h).end ≤ᵇ p.start + (numbers_of (1 - p.from) h).win) met.0 in
        (leb-true _ _ b.1, leb-true _ _ b.0)

    acked-bounds : ack p.flags ≡ 1 → (p.acked ≤ (numbers_of (1 - p.from) h).end) × ((numbers_of (1 - p.from) h).end ≤ p.acked + ack_range)
    acked-bounds acks =
        let b = &&-true (p.acked ≤ᵇ (numbers_of (1 - p.from) h).end) ((numbers_of (1 - p.from) h).end ≤ᵇ p.acked + ack_range) (met.1 (eq-eqb (ack p.flags) 1 acks)) in
        (leb-true _ _ b.0, leb-true _ _ b.1)

    -- the sender's record and numbers
    sender-after : sent (on_ring (numbers_of p.from h)) (on_wire p) ≡ on_ring (numbers_of p.from (p ∷ h))
    sender-after =
        sent-line (numbers_of p.from h) (numbers_of (1 - p.from) h) F T p bounds.0 bounds.1
        ∙ ap on_ring (sym (numbers-sender h p no_reset p.from refl bounds.1))

    sender-spans : Spans (numbers_of p.from (p ∷ h))
    sender-spans =
        rw (numbers-sender h p no_reset p.from refl bounds.1)
        (sent_to-spans (numbers_of p.from h) (p.start + p.length) p.window F bounds.1 formed.window_fits)

    apart : p.from ≡ 1 - p.from → ⊥
    apart e = omega arith

    -- the other end's
    acked-after : ack p.flags ≡ 1 → granted (on_ring (numbers_of (1 - p.from) h)) (on_wire p) ≡ on_ring (numbers_of (1 - p.from) (p ∷ h))
    acked-after acks =
        let b = acked-bounds acks in
        let near = ack-near ack_range ack_range-small (numbers_of (1 - p.from) h) p.acked b.0 b.1 in
        granted-line (numbers_of (1 - p.from) h) T p near b.0 formed.window_fits
        ∙ ap on_ring (sym (numbers-acked h p no_reset (1 - p.from) apart acks))

    unacked-after : (ack p.flags ≡ 1 → ⊥) → on_ring (numbers_of (1 - p.from) h) ≡ on_ring (numbers_of (1 - p.from) (p ∷ h))
    unacked-after silent = ap on_ring (sym (numbers-unacked h p no_reset (1 - p.from) apart silent))

    other-spans : Spans (numbers_of (1 - p.from) (p ∷ h))
    other-spans = by-ack (eqb (ack p.flags) 1) refl
      where
        by-ack : (t : Bool) → eqb (ack p.flags) 1 ≡ t → Spans (numbers_of (1 - p.from) (p ∷ h))
        by-ack true e =
            let acks = eqb-true (ack p.flags) 1 e in
            rw (numbers-acked h p no_reset (1 - p.from) apart acks)
            (granted_to-spans (numbers_of (1 - p.from) h) p.acked p.window T (acked-bounds acks).0 formed.window_fits)
        by-ack false e = rw (numbers-unacked h p no_reset (1 - p.from) apart (eqb-false (ack p.flags) 1 e)) T

    records-after : ends_after (on_ring (numbers_of 0 h) ∷ on_ring (numbers_of 1 h) ∷ []) p.from (on_wire p) ≡ on_ring (numbers_of 0 (p ∷ h)) ∷ on_ring (numbers_of 1 (p ∷ h)) ∷ []
    records-after = by-ack (eqb (ack p.flags) 1) refl
      where
        by-ack :
            (t : Bool) → eqb (ack p.flags) 1 ≡ t →
            ends_after (on_ring (numbers_of 0 h) ∷ on_ring (numbers_of 1 h) ∷ []) p.from (on_wire p) ≡ on_ring (numbers_of 0 (p ∷ h)) ∷ on_ring (numbers_of 1 (p ∷ h)) ∷ []
        by-ack true e =
            let acks = eqb-true (ack p.flags) 1 e in
            ends_after-acked (λ k. on_ring (numbers_of k h)) (λ k. on_ring (numbers_of k (p ∷ h))) p.from (on_wire p) side acks sender-after (acked-after acks)
        by-ack false e =
            let silent = eqb-false (ack p.flags) 1 e in
            ends_after-unacked (λ k. on_ring (numbers_of k h)) (λ k. on_ring (numbers_of k (p ∷ h))) p.from (on_wire p) side silent sender-after (unacked-after silent)

    fins-after : fins_after c.fins p.from p.flags ≡ fins_of (p ∷ h)
    unfolding fins_of
    fins-after = rw holds.fins (sym (when-=-not _ _ no_reset))

    stage-after : stage_after c.stage (fins_after c.fins p.from p.flags) p.from p.flags ≡ stage_of (p ∷ h)
    unfolding stage_of
    stage-after =
        rw (holds.stage, fins-after)
        (sym (when-=-not _ _ no_reset ∙ when-=-not _ _ (λ (e : stage_of h ≡ 0). omega (arith, open-h.stage)) ∙ when-≠ _ _ (λ (e : stage_of h ≡ 1). omega (arith, open-h.stage))))

    pub carried-holds : (now : ℕ) → Holds (passed c p.from (on_wire p) now) (p ∷ h)
    unfolding passed carried
    carried-holds now =
        let later : passed c p.from (on_wire p) now ≡ carried c p.from (on_wire p) now =
        when-=-not _ _ no_reset ∙ when-≠ _ _ (λ (e : c.stage ≡ 1). omega (arith, open-h.stage, holds.stage)) in
        rw later
        record { stage = stage-after; fins = fins-after; ends = ap (λ (l : List End). ends_after l p.from (on_wire p)) holds.ends ∙ records-after }

    pub carried-answered : Answered (p ∷ h)
    carried-answered =
        let ends = spans-of-both (λ k. numbers_of k (p ∷ h)) p.from side sender-spans other-spans in
        record {
          stage = rw (← stage-after) (stage_after≥2 c.stage (fins_after c.fins p.from p.flags) p.from p.flags);
          opener = ends.0;
          answerer = ends.1;
        }

-- A reset

module _ (h : List LineSegment) (p : LineSegment) (is_reset : rst p.flags ≡ 1) where
  -- it counts for nothing
  reset-numbers : (i : ℕ) → numbers_of i (p ∷ h) ≡ numbers_of i h
  unfolding numbers_of
  reset-numbers i =
      let none : ((p.from =ᵇ i) && (rst p.flags ≠ᵇ 1)) ≡ false = rw (eq-eqb (rst p.flags) 1 is_reset) (and-false (p.from =ᵇ i)) in
      let end : max (numbers_of i h).end (end_by i p) ≡ (numbers_of i h).end = ap (max (numbers_of i h).end) (when-false _ _ _ none) ∙ omega arith in
      let edge : max (numbers_of i h).edge (edge_by i p) ≡ (numbers_of i h).edge =
      ap (max (numbers_of i h).edge) (when-true _ _ _ (rw (eq-eqb (rst p.flags) 1 is_reset))) ∙ omega arith in
      let win : max (numbers_of i h).win (window_by i p) ≡ (numbers_of i h).win = ap (max (numbers_of i h).win) (when-false _ _ _ none) ∙ omega arith in
      λ k. record { end = end k; edge = edge k; win = win k }

  -- in stage 1 it frees
  pub reset-freed : stage_of h ≡ 1 → stage_of (p ∷ h) ≡ 0
  unfolding stage_of
  reset-freed first = when-= _ _ is_reset ∙ rw first (when-≤-not {a = 2} {b = 1} 6 0 (omega arith))

  module _ (open-h : Answered h) where
    reset-stage : stage_of (p ∷ h) ≡ 6
    unfolding stage_of
    reset-stage = when-= _ _ is_reset ∙ when-≤ _ _ open-h.stage

    reset-fins : fins_of (p ∷ h) ≡ fins_of h
    unfolding fins_of fins_after when◌then◌else◌
    reset-fins = when-= _ _ is_reset

    pub reset-answered : Answered (p ∷ h)
    reset-answered = record {
      stage = rw reset-stage (omega arith);
      opener = rw (reset-numbers 0) open-h.opener;
      answerer = rw (reset-numbers 1) open-h.answerer;
    }

    pub reset-holds : (c : Connection) → Holds c h → (now : ℕ) → Holds (reset c now) (p ∷ h)
    unfolding reset
    reset-holds c holds now = record {
      stage = sym reset-stage;
      fins = holds.fins ∙ sym reset-fins;
      ends = rw (reset-numbers 0, reset-numbers 1) holds.ends;
    }

-- what it leaves from stage 2 on
pub passed-reset : (c : Connection) (i : ℕ) (g : Segment) (now : ℕ) → rst g.flags ≡ 1 → 2 ≤ c.stage → passed c i g now ≡ reset c now
unfolding passed
passed-reset c i g now is_reset later = when-= _ _ is_reset ∙ when-≤ _ _ later

-- In stage 1

module _ (h : List LineSegment) (p : LineSegment) (no_reset : rst p.flags ≡ 1 → ⊥) (first : stage_of h ≡ 1) where
  stage-repeated : p.from ≡ 0 → stage_of (p ∷ h) ≡ 1
  unfolding stage_of
  stage-repeated opener =
      when-=-not _ _ no_reset ∙ when-=-not _ _ (λ (e : stage_of h ≡ 0). omega arith) ∙ when-≠-not _ _ first ∙ when-= _ _ opener

  stage-answered : (p.from ≡ 0 → ⊥) → stage_of (p ∷ h) ≡ 2
  unfolding stage_of
  stage-answered answerer =
      when-=-not _ _ no_reset ∙ when-=-not _ _ (λ (e : stage_of h ≡ 0). omega arith) ∙ when-≠-not _ _ first ∙ when-=-not _ _ answerer

  fins-unanswered : (fin p.flags ≡ 1 → ⊥) → fins_of (p ∷ h) ≡ fins_of h
  unfolding fins_of fins_after
  fins-unanswered none = when-=-not _ _ no_reset ∙ when-=-not _ _ none

pub allowed : (t : Bool) → (when t then pass else Err NotAllowed) ≡ pass → t ≡ true
unfolding when◌then◌else◌
allowed true e = refl
allowed false e = false-true cc

-- of two tests, the opener's and the answerer's, the one of the sender's
pub of-opener : (i : ℕ) (x y : Bool) → i ≡ 0 → (((i =ᵇ 0) && x) || ((i =ᵇ 1) && y)) ≡ true → x ≡ true
of-opener i true y opener e = refl
of-opener i false y opener e = rw opener at e

pub of-answerer : (i : ℕ) (x y : Bool) → i ≡ 1 → (((i =ᵇ 0) && x) || ((i =ᵇ 1) && y)) ≡ true → y ≡ true
of-answerer i x true answerer e = refl
of-answerer i x false answerer e = rw answerer at e

-- the one of the two that is no reset
pub syn-ack : (f : ℕ) → (rst f ≡ 1 → ⊥) → ((f =ᵇ SYN+ACK) || (f =ᵇ ACK+RST)) ≡ true → f ≡ SYN+ACK
syn-ack f no_reset e = by (eqb f SYN+ACK) refl e
  where
    by : (t : Bool) → eqb f SYN+ACK ≡ t → (t || (f =ᵇ ACK+RST)) ≡ true → f ≡ SYN+ACK
    by true p q = eqb-true f SYN+ACK p
    by false p q = absurd (no_reset (rw (eqb-true f ACK+RST q)))

-- the record that a SYN opens
pub begun-line :
    (p : LineSegment) →
    begun (on_wire p) ≡ on_ring (record { end = p.start + 1; edge = p.start + 1; win = max 1 p.window })
begun-line p =
    let win : max p.window 1 ≡ max 1 p.window = omega arith in
    λ k. record { end = record { 0 = wrap-plus p.start 1 k }; edge = record { 0 = wrap-plus p.start 1 k }; win = record { 0 = win k } }

module _ (c : Connection) (h : List LineSegment) (holds : Holds c h) (p : LineSegment) (formed : Formed p) (passes : judge h p ≡ pass) (unanswered : Unanswered h) where
  judged-by-three : judge h p ≡ judge_unanswered h p
  unfolding judge
  judged-by-three = when-= _ _ unanswered.stage

  -- the same SYN again
  module _ (opener : p.from ≡ 0) where
    pub again : (p.flags ≡ SYN) × (p.start + 1 ≡ (numbers_of 0 h).end)
    unfolding judge_unanswered same_syn_on_line reply_on_line
    again =
        let b = &&-true (eqb p.flags SYN) (eqb (p.start + 1) (numbers_of 0 h).end) (of-opener p.from _ _ opener (allowed _ (sym judged-by-three ∙ passes))) in
        (eqb-true _ _ b.0, eqb-true _ _ b.1)

    no_reset : rst p.flags ≡ 1 → ⊥
    no_reset e = omega (arith, again.0)

    opener-after : numbers_of 0 (p ∷ h) ≡ record { end = (numbers_of 0 h).end; edge = (numbers_of 0 h).edge; win = max (numbers_of 0 h).win p.window }
    opener-after =
        let octet : p.length ≡ 1 = formed.syn_alone (rw again.0) in
        let end : max (numbers_of 0 h).end (p.start + p.length) ≡ (numbers_of 0 h).end = omega (arith, octet, again.1) in
        numbers-sender h p no_reset 0 opener (omega (arith, octet, again.1, unanswered.no-grant))
        ∙ λ k. record { end = end k; edge = (numbers_of 0 h).edge; win = max (numbers_of 0 h).win p.window }

    answerer-after : numbers_of 1 (p ∷ h) ≡ record { end = 0; edge = 0; win = 1 }
    answerer-after =
        numbers-unacked h p no_reset 1 (λ (e : p.from ≡ 1). omega arith) (λ (e : ack p.flags ≡ 1). omega (arith, again.0))
        ∙ unanswered.unheard

    fins-again : fins_of (p ∷ h) ≡ 0
    fins-again = fins-unanswered h p no_reset unanswered.stage (λ (e : fin p.flags ≡ 1). omega (arith, again.0)) ∙ unanswered.fins

    pub repeated-holds : (now : ℕ) → Holds (passed c p.from (on_wire p) now) (p ∷ h)
    unfolding passed repeated
    repeated-holds now =
        let first : passed c p.from (on_wire p) now ≡ repeated c (on_wire p) now =
        when-=-not _ _ no_reset ∙ when-≠-not _ _ (holds.stage ∙ unanswered.stage) ∙ when-= _ _ opener in
        rw first
        record {
          stage = sym (stage-repeated h p no_reset unanswered.stage opener);
          fins = sym fins-again;
          ends = rw (opener-after, answerer-after, holds.ends, unanswered.unheard);
        }

    pub repeated-unanswered : Unanswered (p ∷ h)
    repeated-unanswered = record {
      stage = stage-repeated h p no_reset unanswered.stage opener;
      fins = fins-again;
      opener = rw opener-after record {
        begun = unanswered.opener.begun;
        ordered = unanswered.opener.ordered;
        near = unanswered.opener.near;
        win-some = omega (arith, unanswered.opener.win-some);
        win-most = omega (arith, unanswered.opener.win-most, formed.window_fits);
      };
      no-grant = rw opener-after unanswered.no-grant;
      unheard = answerer-after;
    }

  -- the SYN+ACK
  module _ (answerer : p.from ≡ 1) (no_reset : rst p.flags ≡ 1 → ⊥) where
    pub reply : (p.acked ≡ (numbers_of 0 h).end) × (p.flags ≡ SYN+ACK)
    unfolding judge_unanswered same_syn_on_line reply_on_line
    reply =
        let b = &&-true (eqb p.acked (numbers_of 0 h).end) ((p.flags =ᵇ SYN+ACK) || (p.flags =ᵇ ACK+RST)) (of-answerer p.from _ _ answerer (allowed _ (sym judged-by-three ∙ passes))) in
        (eqb-true _ _ b.0, syn-ack p.flags no_reset b.1)

    acks : ack p.flags ≡ 1
    acks = rw reply.1

    not-opener : p.from ≡ 0 → ⊥
    not-opener e = omega arith

    opener-raised : granted (on_ring (numbers_of 0 h)) (on_wire p) ≡ on_ring (numbers_of 0 (p ∷ h))
    opener-raised =
        let all : p.acked ≤ (numbers_of 0 h).end = omega (arith, reply.0) in
        let near = ack-near ack_range ack_range-small (numbers_of 0 h) p.acked all (omega (arith, reply.0)) in
        granted-line (numbers_of 0 h) unanswered.opener p near all formed.window_fits
        ∙ ap on_ring (sym (numbers-acked h p no_reset 0 not-opener acks))

    opener-spans : Spans (numbers_of 0 (p ∷ h))
    opener-spans =
        rw (numbers-acked h p no_reset 0 not-opener acks)
        (granted_to-spans (numbers_of 0 h) p.acked p.window unanswered.opener (omega (arith, reply.0)) formed.window_fits)

    -- the answerer's line begins
    pub answerer-begins : numbers_of 1 (p ∷ h) ≡ record { end = p.start + 1; edge = p.start + 1; win = max 1 p.window }
    answerer-begins =
        let none = unanswered.unheard in
        let no_end = ap (λ (x : Numbers). x.end) none in
        let no_edge = ap (λ (x : Numbers). x.edge) none in
        let octet : p.length ≡ 1 = formed.syn_alone (rw reply.1) in
        let end : max (numbers_of 1 h).end (p.start + p.length) ≡ p.start + 1 = omega (arith, no_end, octet) in
        let edge : max (numbers_of 1 h).edge (p.start + p.length) ≡ p.start + 1 = omega (arith, no_edge, octet) in
        let win = ap (λ (x : Numbers). max x.win p.window) none in
        numbers-syn h p no_reset 1 answerer (rw reply.1) ∙ λ k. record { end = end k; edge = edge k; win = win k }

    pub answered-holds : (now : ℕ) → Holds (passed c p.from (on_wire p) now) (p ∷ h)
    unfolding passed answered
    answered-holds now =
        let second : passed c p.from (on_wire p) now ≡ answered c (on_wire p) now =
        when-=-not _ _ no_reset ∙ when-≠-not _ _ (holds.stage ∙ unanswered.stage) ∙ when-=-not _ _ not-opener in
        let opener : granted (sender c.ends 0) (on_wire p) ≡ on_ring (numbers_of 0 (p ∷ h)) =
        ap (λ (l : List End). granted (sender l 0) (on_wire p)) holds.ends ∙ opener-raised in
        let answerer : begun (on_wire p) ≡ on_ring (numbers_of 1 (p ∷ h)) = begun-line p ∙ ap on_ring (sym answerer-begins) in
        rw second
        record {
          stage = sym (stage-answered h p no_reset unanswered.stage not-opener);
          fins = sym (fins-unanswered h p no_reset unanswered.stage (λ (e : fin p.flags ≡ 1). omega (arith, reply.1)) ∙ unanswered.fins);
          ends = λ k. opener k ∷ answerer k ∷ [];
        }

    pub answered-answered : Answered (p ∷ h)
    answered-answered = record {
      stage = rw (stage-answered h p no_reset unanswered.stage not-opener) (omega arith);
      opener = opener-spans;
      answerer = rw answerer-begins record {
        begun = omega arith;
        ordered = omega arith;
        near = omega arith;
        win-some = omega arith;
        win-most = omega (arith, formed.window_fits);
      };
    }

-- The opening

unheard-line : unheard ≡ on_ring (record { end = 0; edge = 0; win = 1 })
unfolding wrap
unheard-line = refl

module _ (p : LineSegment) (opener : p.from ≡ 0) (a-syn : p.flags ≡ SYN) (formed : Formed p) where
  no-reset-syn : rst p.flags ≡ 1 → ⊥
  no-reset-syn e = omega arith

  pub opener-begins : numbers_of 0 (p ∷ []) ≡ record { end = p.start + 1; edge = p.start + 1; win = max 1 p.window }
  unfolding numbers_of
  opener-begins =
      let octet : p.length ≡ 1 = formed.syn_alone (rw a-syn) in
      let end : max 0 (p.start + p.length) ≡ p.start + 1 = omega arith in
      numbers-syn [] p no-reset-syn 0 opener (rw a-syn) ∙ λ k. record { end = end k; edge = end k; win = max 1 p.window }

  answerer-unheard : numbers_of 1 (p ∷ []) ≡ record { end = 0; edge = 0; win = 1 }
  unfolding numbers_of
  answerer-unheard = numbers-unacked [] p no-reset-syn 1 (λ (e : p.from ≡ 1). omega arith) (λ (e : ack p.flags ≡ 1). omega arith)

  stage-opened : stage_of (p ∷ []) ≡ 1
  unfolding stage_of
  stage-opened = when-=-not _ _ no-reset-syn ∙ when-= {a = 0} {b = 0} _ _ refl

  fins-opened : fins_of (p ∷ []) ≡ 0
  unfolding fins_of fins_after
  fins-opened = when-=-not _ _ no-reset-syn ∙ when-=-not _ _ (λ (e : fin p.flags ≡ 1). omega arith)

  pub opened-unanswered : Unanswered (p ∷ [])
  opened-unanswered = record {
    stage = stage-opened;
    fins = fins-opened;
    opener = rw opener-begins record {
      begun = omega arith;
      ordered = omega arith;
      near = omega arith;
      win-some = omega arith;
      win-most = omega (arith, formed.window_fits);
    };
    no-grant = rw opener-begins;
    unheard = answerer-unheard;
  }

  pub opened-holds : (side now : ℕ) → Holds (opened side (on_wire p) now) (p ∷ [])
  unfolding opened
  opened-holds side now =
      let opener-record : begun (on_wire p) ≡ on_ring (numbers_of 0 (p ∷ [])) = begun-line p ∙ ap on_ring (sym opener-begins) in
      let answerer-record : unheard ≡ on_ring (numbers_of 1 (p ∷ [])) = unheard-line ∙ ap on_ring (sym answerer-unheard) in
      record { stage = sym stage-opened; fins = sym fins-opened; ends = λ k. opener-record k ∷ answerer-record k ∷ [] }
