-- Where the bounds are met, the segment stands at the one place that it is given; so 14, 15 and 0 speak of all places.
use Prim.Native.Nat.{ℕ, ◌+◌, ◌-◌, ◌^◌, ◌<◌, ◌≤◌}
use mathlib.Core.Path.{◌≡◌, refl, sym, ap, ◌∙◌}
use mathlib.Core.Bool.{Bool, true, false, ◌&&◌, not}
use mathlib.Core.Logic.{◌⊎◌, ◌↔◌, inr, ⊎_elim}
use mathlib.Core.List.{List}
use native.Mathlib.Omega.{arith}
use borrow.Author.Tests.{leb-true, eq-eqb, eqb-true}
use Rattle.std.specs.Prelude.{Err}
use Rattle.choice.specs.Choice.{when◌then◌else◌, ◌≤ᵇ◌, ◌=ᵇ◌}
use Rattle.choice.proofs.Choice.{when-either, when-=, when-=-not}
use Rattle.choice.proofs.Tests.{not-true-false, false-true, &&-true}
use Rattle.serial.specs.Ring.{wrap, largest_range}
use Rattle.serial.proofs.Ring.{nearest-wrap}
use Rattle.segment.specs.Flags.{ack}
use Rattle.segment.specs.Readable.{Readable}
use Rattle.segment.specs.declared.Segment.{Segment}
use Rattle.connection.specs.Ranges.{ack_range}
use Rattle.connection.specs.Decision.{Verdict, pass, verdict_number, opened}
use Rattle.connection.specs.declared.SegmentError.TheVariants.{SequenceMissed, AckMissed}
use Rattle.history.specs.Numbers.{bounds_i_ii, bounds_iii_iv}
use Rattle.history.specs.History.{LineSegment, numbers_of, stage_of, stands_by, placed, judge_unanswered, judge, Placeable}
use Rattle.history.specs.Places.{MetFrom, AcksAt, ByAllPlaces}
use Rattle.history.specs.Demand2.{connection_after, history_after, opening_history, Uniqueness}
use Rattle.history.proofs.Step.{Near, start-near, ack-near, ack_range-small}
use Rattle.history.proofs.Verdict.{Answered, spans}
use Rattle.history.proofs.Demand2.{stands-nearest, wrap-stands, Reached, unanswered, answered, judged, after-all, holds-first, reached-first}

pub readable-placeable : (g : Segment) → Readable g → Placeable g
readable-placeable g r = record { seq_fits = r.seq_fits; ack_fits = r.ack_fits; window_fits = r.window_fits; syn_alone = r.syn_alone }

near-only : (E S : ℕ) → 2 ^ 32 ≤ E → Near E S → S ≡ stands_by E (wrap S)
near-only E S turned near = sym (stands-nearest E (wrap S) turned ∙ nearest-wrap E S (omega arith) near.low near.high)

module _ (h : List LineSegment) (both-heard : Answered h) (i : ℕ) (side : i < 2) (turned : 2 ^ 32 ≤ (numbers_of i h).end) where
  start-only : (S n : ℕ) → bounds_i_ii (numbers_of i h) (numbers_of (1 - i) h) S n ≡ true → S ≡ stands_by (numbers_of i h).end (wrap S)
  start-only S n met =
      let b = &&-true (S + n ≤ᵇ (numbers_of i h).edge) ((numbers_of i h).end ≤ᵇ S + (numbers_of (1 - i) h).win) met in
      near-only (numbers_of i h).end S turned
      (start-near (numbers_of i h) (numbers_of (1 - i) h) S n
      (spans h both-heard i side) (spans h both-heard (1 - i) (omega arith)) (leb-true _ _ b.1) (leb-true _ _ b.0))

  ack-only :
      (range : ℕ) → range ≤ largest_range →
      (A : ℕ) → bounds_iii_iv range (numbers_of i h) A ≡ true → A ≡ stands_by (numbers_of i h).end (wrap A)
  ack-only range small A met =
      let b = &&-true (A ≤ᵇ (numbers_of i h).end) ((numbers_of i h).end ≤ᵇ A + range) met in
      near-only (numbers_of i h).end A turned (ack-near range small (numbers_of i h) A (leb-true _ _ b.0) (leb-true _ _ b.1))

-- The answers by the tests x (I and II), a (ACK) and y (III and IV)

abbrev by_tests : Bool → Bool → Bool → Verdict
by_tests x a y = when not x then Err SequenceMissed else when a && not y then Err AckMissed else pass

pub record NumberBy (x a y : Bool) : Type 0 where
  pub is-14 : (verdict_number (by_tests x a y) ≡ 14) ↔ (x ≡ false)
  pub is-15 : (verdict_number (by_tests x a y) ≡ 15) ↔ ((x ≡ true) × (a ≡ true) × (y ≡ false))
  pub is-0 : (verdict_number (by_tests x a y) ≡ 0) ↔ ((x ≡ true) × (a ≡ true → y ≡ true))

number_by : (x a y : Bool) → NumberBy x a y
unfolding when◌then◌else◌
number_by false a y = record {
  is-14 = ((λ _. refl), (λ _. refl));
  is-15 = ((λ e. absurd (omega arith)), (λ t. false-true t.0));
  is-0 = ((λ e. absurd (omega arith)), (λ t. false-true t.0));
}
number_by true true true = record {
  is-14 = ((λ e. absurd (omega arith)), (λ e. false-true (sym e)));
  is-15 = ((λ e. absurd (omega arith)), (λ t. false-true (sym t.2)));
  is-0 = ((λ _. (refl, λ _. refl)), (λ _. refl));
}
number_by true true false = record {
  is-14 = ((λ e. absurd (omega arith)), (λ e. false-true (sym e)));
  is-15 = ((λ _. (refl, refl, refl)), (λ _. refl));
  is-0 = ((λ e. absurd (omega arith)), (λ t. false-true (t.1 refl)));
}
number_by true false y = record {
  is-14 = ((λ e. absurd (omega arith)), (λ e. false-true (sym e)));
  is-15 = ((λ e. absurd (omega arith)), (λ t. false-true t.1));
  is-0 = ((λ _. (refl, λ e. false-true e)), (λ _. refl));
}

-- A segment of sender i, after a history that has been answered

module _
    (h : List LineSegment) (both-heard : Answered h) (turned : (k : ℕ) → k < 2 → 2 ^ 32 ≤ (numbers_of k h).end)
    (i : ℕ) (side : i < 2) (g : Segment) (r : Placeable g) where
  abbrev start : ℕ
  start = stands_by (numbers_of i h).end g.seq.0

  abbrev acked : ℕ
  acked = stands_by (numbers_of (1 - i) h).end g.ack.0

  abbrev x : Bool
  x = bounds_i_ii (numbers_of i h) (numbers_of (1 - i) h) start g.octets.0

  abbrev y : Bool
  y = bounds_iii_iv ack_range (numbers_of (1 - i) h) acked

  judged-by : judge h (placed h i g) ≡ by_tests x (ack g.flags =ᵇ 1) y
  unfolding judge
  judged-by = when-=-not _ _ (λ (e : stage_of h ≡ 1). omega (arith, both-heard.stage))

  start_is : (S : ℕ) → MetFrom h i g S → S ≡ start
  start_is S m =
      start-only h both-heard i side (turned i side) S g.octets.0 m.bounds ∙ ap (stands_by (numbers_of i h).end) m.number

  acked-is : (A : ℕ) → AcksAt h i g A → A ≡ acked
  acked-is A m =
      ack-only h both-heard (1 - i) (omega arith) (turned (1 - i) (omega arith)) ack_range ack_range-small A m.bounds
      ∙ ap (stands_by (numbers_of (1 - i) h).end) m.number

  -- a test holds at the place given exactly where it holds at some place
  met-here : x ≡ true → MetFrom h i g start
  met-here e = record { number = wrap-stands (numbers_of i h).end g.seq.0 (inr (turned i side)) r.seq_fits; bounds = e }

  met : (S : ℕ) → MetFrom h i g S → x ≡ true
  met S m = ap (λ (X : ℕ). bounds_i_ii (numbers_of i h) (numbers_of (1 - i) h) X g.octets.0) (sym (start_is S m)) ∙ m.bounds

  acks-here : y ≡ true → AcksAt h i g acked
  acks-here e = record {
    number = wrap-stands (numbers_of (1 - i) h).end g.ack.0 (inr (turned (1 - i) (omega arith))) r.ack_fits;
    bounds = e;
  }

  acks : (A : ℕ) → AcksAt h i g A → y ≡ true
  acks A m = ap (bounds_iii_iv ack_range (numbers_of (1 - i) h)) (sym (acked-is A m)) ∙ m.bounds

  judged-by-all-places : ByAllPlaces h i g (verdict_number (judge h (placed h i g)))
  judged-by-all-places =
      let n = number_by x (ack g.flags =ᵇ 1) y in
      let e = ap verdict_number judged-by in
      record {
        start_unique = start_is;
        acked_unique = acked-is;
        answer_14 = (
          (λ is S m. false-true (sym (n.is-14.0 (sym e ∙ is)) ∙ met S m)),
          (λ none. e ∙ n.is-14.1 (not-true-false x (λ t. none start (met-here t)))),
        );
        answer_15 = (
          (λ is.
              let t = n.is-15.0 (sym e ∙ is) in
              ((start, met-here t.0), eqb-true (ack g.flags) 1 t.1, λ A m. false-true (sym t.2 ∙ acks A m))),
          (λ (somewhere, has_ack, none).
              e ∙ n.is-15.1 (met somewhere.0 somewhere.1, eq-eqb (ack g.flags) 1 has_ack, not-true-false y (λ t. none acked (acks-here t)))),
        );
        answer_0 = (
          (λ is.
              let t = n.is-0.0 (sym e ∙ is) in
              ((start, met-here t.0), λ has_ack. (acked, acks-here (t.1 (eq-eqb (ack g.flags) 1 has_ack))))),
          (λ (somewhere, acking).
              e ∙ n.is-0.1 (met somewhere.0 somewhere.1, λ has_ack. let A = acking (eqb-true (ack g.flags) 1 has_ack) in acks A.0 A.1)),
        );
      }

-- 14 and 15 are given from stage 2 on
pub from-stage-2 :
    (h : List LineSegment) → Reached h → (p : LineSegment) →
    (verdict_number (judge h p) ≡ 14) ⊎ (verdict_number (judge h p) ≡ 15) → 2 ≤ stage_of h
unfolding judge judge_unanswered
from-stage-2 h (answered a turned) p is = a.stage
from-stage-2 h (unanswered u turned) p is =
    let three : verdict_number (judge h p) ≤ 13 =
    rw (when-= {a = stage_of h} {b = 1} (judge_unanswered h p) _ u.stage) (when-either (λ (v : Verdict). verdict_number v ≤ 13) _ _ _ (omega arith) (omega arith)) in
    ⊎_elim (λ e. absurd (omega (arith, three, e))) (λ e. absurd (omega (arith, three, e))) is

-- after any history that a connection has come to
pub by-all-places :
    (h : List LineSegment) → Reached h → 2 ≤ stage_of h → (i : ℕ) → i < 2 → (g : Segment) → Placeable g →
    ByAllPlaces h i g (verdict_number (judge h (placed h i g)))
by-all-places h (unanswered u turned) later i side g r = absurd (omega (arith, u.stage, later))
by-all-places h (answered a turned) later i side g r = judged-by-all-places h a turned i side g r

pub uniqueness : Uniqueness
uniqueness side g now placeable a-syn l legal none-freed later o next =
    let k = after-all (opened side g now) (opening_history g) (holds-first side g now placeable a-syn) (reached-first side g now placeable a-syn) l legal none-freed in
    let h = history_after (opening_history g) l in
    rw (judged (connection_after (opened side g now) l) h k.0 k.1 o next)
    (by-all-places h k.1 later o.sender next.sender_known o.segment next.placeable)
