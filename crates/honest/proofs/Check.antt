-- A list of events over the rows can be checked to be legal by computation.
use Prim.Native.Nat.{ℕ, ◌+◌, ◌<◌, ◌≤◌, max}
use mathlib.Core.Path.{◌≡◌, refl, sym, ap, subst, ◌∙◌}
use mathlib.Core.Logic.{◌⊎◌, inl, inr, ⊎_elim}
use mathlib.Core.Bool.{Bool, true, false, ◌&&◌, ◌||◌, not}
use mathlib.Core.List.{List, [], ◌∷◌}
use native.Mathlib.Omega.{arith}
use lib.ListN.{length}
use borrow.Author.Tests.{not-true, lt-ltb, ltb-true, leb-true, eq-eqb, eqb-true}
use Rattle.std.specs.Prelude.{None, Option, Some}
use Rattle.choice.specs.Choice.{◌<ᵇ◌, ◌≤ᵇ◌, ◌=ᵇ◌}
use Rattle.choice.proofs.Tests.{&&-true, ||-true, false-true}
use Rattle.address.specs.Flows.{same_flow}
use Rattle.address.specs.declared.Flow.{Flow}
use Rattle.address.proofs.Flows.{same_true}
use Rattle.segment.specs.Flags.{syn, rst, is_reset, ack, SYN, SYN+ACK}
use Rattle.segment.specs.declared.Segment.{Segment}
use Rattle.connection.specs.Ends.{other_end}
use Rattle.connection.specs.Ranges.{widest}
use Rattle.rows.specs.Rows.{View, match_of}
use Rattle.rows.specs.Connections.{connections}
use Rattle.history.specs.History.{LineSegment, on_wire, stage_of, Formed}
use Rattle.honest.specs.Machine.{asks, Machine}
use Rattle.honest.specs.Rules.{Label, opening, arrival, other, IsArrivalOf, Event, send, call, delivery, Pair, side_of, key_of, sent_by, Sent, Arrived, received_by, highest, some, ack_of, edge_of, end_of, highest_ack_at_sending, MayOvertake, overtaking_allowance, has_answer, OpenersSyn, AnswerersSynAck, LaterSegment, AnyReset, Allowed, openers_syn, answerers_syn_ack, later, any_reset}
use Rattle.honest.specs.Honest.{told, passes, passed_on_ours, Live, WasPassed, bringing, Arrives, InOrderOrOvertaken, Opening, Arrival, FairCall, Fair, Legal, ArrivalAsWritten, FairAsWritten, LegalAsWritten}
use Rattle.honest.specs.Instance.{ViewCall, view_machine}

-- Tests with what they show

pub record Test (A : Type 0) : Type 0 where
  pub holds : Bool
  pub shows : holds ≡ true → A

module _ {A B : Type 0} where
  abbrev pub both : Test A → Test B → Test (A × B)
  both s t = record { holds = s.holds && t.holds; shows = λ e. let h = &&-true s.holds t.holds e in (s.shows h.0, t.shows h.1) }

  abbrev either : Test A → Test B → Test (A ⊎ B)
  either s t = record {
    holds = s.holds || t.holds;
    shows = λ e. ⊎_elim (λ h. inl (s.shows h)) (λ h. inr (t.shows h)) (||-true s.holds t.holds e);
  }

  abbrev pub so : (A → B) → Test A → Test B
  so f t = record { holds = t.holds; shows = λ e. f (t.shows e) }

abbrev pub three : {A B C : Type 0} → Test A → Test B → Test C → Test (A × B × C)
three s t u = so (λ h. (h.0, h.1.0, h.1.1)) (both s (both t u))

abbrev pub yes : {A : Type 0} → A → Test A
yes a = record { holds = true; shows = λ _. a }

abbrev pub no : {A : Type 0} → Test A
no = record { holds = false; shows = λ e. false-true e }

abbrev is_true : (b : Bool) → Test (b ≡ true)
is_true b = record { holds = b; shows = λ e. e }

abbrev is_false : (b : Bool) → Test (b ≡ false)
is_false b = record { holds = not b; shows = not-true b }

abbrev pub equal : (m n : ℕ) → Test (m ≡ n)
equal m n = record { holds = m =ᵇ n; shows = eqb-true m n }

abbrev pub at_most : (m n : ℕ) → Test (m ≤ n)
at_most m n = record { holds = m ≤ᵇ n; shows = leb-true m n }

abbrev below : (m n : ℕ) → Test (m < n)
below m n = record { holds = m <ᵇ n; shows = ltb-true m n }

abbrev nothing : (r : Option ℕ) → Test (r ≡ None)
nothing None = yes refl
nothing (Some p) = no

-- asked only where the first holds
pub when-shows : {A : Type 0} (b : Bool) (t : Test A) → not b || t.holds ≡ true → b ≡ true → A
when-shows true t e _ = t.shows e
when-shows false t e f = false-true f

abbrev if_below : {A : Type 0} (m n : ℕ) → Test A → Test (m < n → A)
if_below m n t = record { holds = not (m <ᵇ n) || t.holds; shows = λ e under. when-shows (m <ᵇ n) t e (lt-ltb m n under) }

abbrev if_equal : {A : Type 0} (m n : ℕ) → Test A → Test (m ≡ n → A)
if_equal m n t = record { holds = not (m =ᵇ n) || t.holds; shows = λ e is. when-shows (m =ᵇ n) t e (eq-eqb m n is) }

-- Segments

abbrev same_line : (p g : LineSegment) → Test (p ≡ g)
same_line p g =
    so (λ h i. record {
      from = h.0 i;
      flags = h.1.0 i;
      start = h.1.1.0 i;
      length = h.1.1.1.0 i;
      acked = h.1.1.1.1.0 i;
      window = h.1.1.1.1.1 i;
    })
    (both (equal p.from g.from)
    (both (equal p.flags g.flags)
    (both (equal p.start g.start)
    (both (equal p.length g.length)
    (both (equal p.acked g.acked) (equal p.window g.window))))))

abbrev same_key : (j k : Flow) → Test (j ≡ k)
same_key j k = so (same_true j k) (is_true (same_flow j k))

abbrev same_segment : (p g : Segment) → Test (p ≡ g)
same_segment p g =
    so (λ h i. record {
      seq = record { 0 = h.0 i };
      ack = record { 0 = h.1.0 i };
      window = record { 0 = h.1.1.0 i };
      flags = h.1.1.1.0 i;
      octets = record { 0 = h.1.1.1.1 i };
    })
    (both (equal p.seq.0 g.seq.0)
    (both (equal p.ack.0 g.ack.0)
    (both (equal p.window.0 g.window.0)
    (both (equal p.flags g.flags) (equal p.octets.0 g.octets.0)))))

abbrev may_overtake : (allowance highest_ack : ℕ) (g p : LineSegment) → Test (MayOvertake allowance highest_ack g p)
may_overtake allowance highest_ack g p =
    so (λ h. record { sent_while = omega (arith, h.0); acks_near = omega (arith, h.1) })
    (both (at_most highest_ack p.start) (at_most (ack_of g) (ack_of p + allowance)))

abbrev formed : (p : LineSegment) → Test (Formed p)
formed p =
    so (λ h. record { window_fits = h.0; syn_alone = h.1 })
    (both (at_most p.window widest) (if_equal (syn p.flags) 1 (equal p.length 1)))

-- Events

-- what holds of one arrival and of all before it holds of all
pub one_more :
    {A : ℕ → LineSegment → Type 0} (T : ℕ → LineSegment → Type 0) (n : ℕ) (p : LineSegment) → T n p →
    ((j : ℕ) (g : LineSegment) → A j g → T j g) → (j : ℕ) (g : LineSegment) → ((j ≡ n) × (g ≡ p)) ⊎ A j g →
    T j g
one_more T n p this before j g (inl (same, is)) = subst (λ (m : ℕ). T m g) (sym same) (subst (T n) (sym is) this)
one_more T n p this before j g (inr was) = before j g was

module _ (t₀ : View connections) (P : Pair) where
  abbrev M : Machine
  M = view_machine (λ p. p)

  abbrev Seen : Type 0
  Seen = List (Event ViewCall)

  abbrev openers_syn_test : (p : LineSegment) (L : Seen) → Test (OpenersSyn P p L)
  openers_syn_test p L =
      so (λ h. record { by_opener = h.0; flags = h.1.0; start = h.1.1.0; until_syn_ack = h.1.1.1 })
      (both (equal p.from 0)
      (both (equal p.flags SYN)
      (both (equal p.start (P.start 0)) (is_false (has_answer 0 L)))))

  abbrev answerers_syn_ack_test : (p : LineSegment) (L : Seen) → Test (AnswerersSynAck P p L)
  answerers_syn_ack_test p L =
      so (λ h. record {
        by_answerer = h.0;
        has_syn = h.1.0;
        flags = h.1.1.0;
        start = h.1.1.1.0;
        acks_syn = h.1.1.1.1.0;
        until_ack = h.1.1.1.1.1;
      })
      (both (equal p.from 1)
      (both (is_true (some (λ g. g.flags =ᵇ SYN) (received_by 1 L)))
      (both (equal p.flags SYN+ACK)
      (both (equal p.start (P.start 1))
      (both (equal p.acked (P.start 0 + 1)) (is_false (has_answer 1 L)))))))

  abbrev later_segment_test : (p : LineSegment) (L : Seen) → Test (LaterSegment P p L)
  later_segment_test p L =
      so (λ h. record {
        by_either = h.0.0;
        after_answer = h.0.1.0;
        has_ack = h.0.1.1.0;
        no_syn = h.0.1.1.1.0;
        no_reset = h.0.1.1.1.1;
        starts = omega (arith, h.1.0.0);
        ends = omega (arith, h.1.0.1);
        acks_syn = omega (arith, h.1.1.0);
        acks_received = omega (arith, h.1.1.1.0);
        acks_rise = omega (arith, h.1.1.1.1);
      })
      (both
      (both (below p.from 2)
      (both (is_true (has_answer p.from L))
      (both (equal (ack p.flags) 1) (both (equal (syn p.flags) 0) (equal (rst p.flags) 0)))))
      (both
      (both (at_most (highest ack_of (received_by p.from L)) p.start) (at_most (end_of p) (highest edge_of (received_by p.from L))))
      (both (at_most (P.start (other_end p.from) + 1) p.acked)
      (both (at_most p.acked (highest end_of (received_by p.from L))) (at_most (highest ack_of (sent_by p.from L)) p.acked)))))

  abbrev any_reset_test : (p : LineSegment) (L : Seen) → Test (AnyReset P p L)
  any_reset_test p L = so (λ h. record { by_either = h.0; is_reset = h.1 }) (both (below p.from 2) (equal (rst p.flags) 1))

  abbrev allowed : (p : LineSegment) (L : Seen) → Test (Allowed P p L)
  allowed p L =
      so (λ h. ⊎_elim (λ r. openers_syn r) (λ h. ⊎_elim (λ r. answerers_syn_ack r) (λ h. ⊎_elim (λ r. later r) (λ r. any_reset r) h) h) h)
      (either (openers_syn_test p L) (either (answerers_syn_ack_test p L) (either (later_segment_test p L) (any_reset_test p L))))

  abbrev was_sent : (k : ℕ) (p : LineSegment) (L : Seen) → Test (Sent k p L)
  was_sent k p [] = no
  was_sent k p (send g ∷ L) = either (both (same_line p g) (equal k (length (sent_by g.from L)))) (was_sent k p L)
  was_sent k p (call q l ∷ L) = was_sent k p L
  was_sent k p (delivery j g ∷ L) = was_sent k p L

  -- sent before, and brought by a call with the clock that it is given
  abbrev Brings : (k : ℕ) (p : LineSegment) (q : ViewCall) (L : Seen) → Type 0
  Brings k p q L = Sent k p L × (asks q.0 ≡ asks (bringing P p q.0.clock))

  abbrev brings : (k : ℕ) (p : LineSegment) (q : ViewCall) (L : Seen) → Test (Brings k p q L)
  brings k p q L =
      so (λ h. (h.0, λ i. asks (record { side = h.1.0 i; clock = q.0.clock; key = h.1.1.0 i; segment = h.1.1.1 i })))
      (both (was_sent k p L)
      (both (equal q.0.side (side_of P p.from))
      (both (same_key q.0.key (key_of P p.from)) (same_segment q.0.segment (on_wire p)))))

  abbrev arrives : (k : ℕ) (p : LineSegment) (q : ViewCall) (L : Seen) → Brings k p q L → Arrives M P k p q L
  arrives k p q L h = record { sent = h.0; clock = q.0.clock; brings = h.1 }

  abbrev opens : (k : ℕ) (p : LineSegment) (q : ViewCall) (L : Seen) → Test (Opening M t₀ P k p q L)
  opens k p q L =
      so (λ h. record {
        first_one = h.0;
        arrives = arrives k p q L h.1.0;
        by_opener = h.1.1.0;
        is_syn = h.1.1.1.0;
        finds_none = h.1.1.1.1.0;
        answered_0 = h.1.1.1.1.1;
      })
      (both (is_false (told M t₀ L).opening_seen)
      (both (brings k p q L)
      (both (equal p.from 0)
      (both (equal p.flags SYN)
      (both (nothing (match_of connections (told M t₀ L).state (bringing P p q.0.clock))) (is_true (passes M (told M t₀ L) q)))))))

  abbrev is_live : (q : ViewCall) (L : Seen) → Test (Live M (told M t₀ L) q)
  is_live q L = so (λ under. omega (arith, under)) (below (max q.0.clock (told M t₀ L).pass_clock) (told M t₀ L).until)

  -- of each sending that has arrived
  abbrev every_arrived :
      (T : ℕ → LineSegment → Type 0) → ((j : ℕ) (g : LineSegment) → Test (T j g)) → (L : Seen) →
      Test ((j : ℕ) (g : LineSegment) → Arrived j g L → T j g)
  every_arrived T test [] = yes (λ j g never. absurd never)
  every_arrived T test (send p ∷ L) = every_arrived T test L
  every_arrived T test (call q (opening n p) ∷ L) = so (λ h. one_more T n p h.0 h.1) (both (test n p) (every_arrived T test L))
  every_arrived T test (call q (arrival n p) ∷ L) = so (λ h. one_more T n p h.0 h.1) (both (test n p) (every_arrived T test L))
  every_arrived T test (call q other ∷ L) = so (λ h j g was. ⊎_elim (λ never. absurd never) (h j g) was) (every_arrived T test L)
  every_arrived T test (delivery n p ∷ L) = every_arrived T test L

  abbrev pub in_order_or_overtaken : (allowance k : ℕ) (p : LineSegment) (L : Seen) → Test (InOrderOrOvertaken M allowance k p L)
  in_order_or_overtaken allowance k p L =
      so (λ h j g was mine none later-sent.
      let o = h j g was mine none (omega (arith, later-sent)) in
      let same : highest_ack_at_sending g.from j L ≡ highest_ack_at_sending p.from j L = ap (λ (i : ℕ). highest_ack_at_sending i j L) mine in
      record { sent_while = omega (arith, o.sent_while); acks_near = omega (arith, o.acks_near) })
      (every_arrived (λ j g. g.from ≡ p.from → rst g.flags ≡ 0 → k < j → MayOvertake allowance (highest_ack_at_sending g.from j L) g p)
      (λ j g. if_equal g.from p.from (if_equal (rst g.flags) 0
      (if_below k j (may_overtake allowance (highest_ack_at_sending g.from j L) g p)))) L)

  abbrev pub comes_with : (allowance k : ℕ) (p : LineSegment) (q : ViewCall) (L : Seen) → Test (Arrival M t₀ P allowance k p q L)
  comes_with allowance k p q L =
      so (λ h. record {
        after_opening = h.0;
        arrives = arrives k p q L h.1.0;
        order = h.1.1.0;
        live = h.1.1.1.0;
        reset_passes = h.1.1.1.1;
      })
      (both (is_true (told M t₀ L).opening_seen)
      (both (brings k p q L)
      (both (if_equal (rst p.flags) 0 (in_order_or_overtaken allowance k p L))
      (both (is_live q L) (if_equal (rst p.flags) 1 (is_true (passes M (told M t₀ L) q)))))))

  -- not passed on the opening's entry, or a reset
  abbrev no_arrival : (q : ViewCall) (L : Seen) → Test (FairCall M t₀ P other q L)
  no_arrival q L =
      so (λ h ours-is. ⊎_elim (λ not_ours. false-true (sym not_ours ∙ ours-is)) (λ reset. reset) h)
      (either (is_false (passed_on_ours M (told M t₀ L) q)) (is_true (is_reset q.0.segment.flags)))

  abbrev fair_call : (l : Label) (q : ViewCall) (L : Seen) → Test (FairCall M t₀ P l q L)
  fair_call (opening k p) q L = opens k p q L
  fair_call (arrival k p) q L = comes_with overtaking_allowance k p q L
  fair_call other q L = no_arrival q L

  abbrev is_label : (l : Label) (k : ℕ) (p : LineSegment) → Test (IsArrivalOf l k p)
  is_label (opening j g) k p = both (equal k j) (same_line p g)
  is_label (arrival j g) k p = both (equal k j) (same_line p g)
  is_label other k p = no

  abbrev has_passed : (k : ℕ) (p : LineSegment) (L : Seen) → Test (WasPassed M t₀ k p L)
  has_passed k p [] = no
  has_passed k p (send g ∷ L) = has_passed k p L
  has_passed k p (call q l ∷ L) = either (both (is_label l k p) (is_true (passes M (told M t₀ L) q))) (has_passed k p L)
  has_passed k p (delivery j g ∷ L) = has_passed k p L

  abbrev pub fair : (x : Event ViewCall) (L : Seen) → Test (Fair M t₀ P x L)
  fair (send p) L = so (λ h. record { allowed = h.0; formed = h.1 }) (both (allowed p L) (formed p))
  fair (call q l) L = fair_call l q L
  fair (delivery k p) L = has_passed k p L

  abbrev pub checked : (L : Seen) → Test (Legal M t₀ P L)
  checked [] = yes tt
  checked (x ∷ L) = both (fair x L) (checked L)

  -- As document 02 words it

  abbrev comes_as_written : (k : ℕ) (p : LineSegment) (q : ViewCall) (L : Seen) → Test (ArrivalAsWritten M t₀ P k p q L)
  comes_as_written k p q L =
      so (λ h. record {
        after_opening = h.0;
        arrives = arrives k p q L h.1.0;
        order = h.1.1.0.0;
        neither_syn_nor_reset = h.1.1.0.1;
        live = h.1.1.1.0;
        reset_passes = h.1.1.1.1;
      })
      (both (is_true (told M t₀ L).opening_seen)
      (both (brings k p q L)
      (both (both (in_order_or_overtaken overtaking_allowance k p L)
      (every_arrived (λ j g. g.from ≡ p.from → k < j → (syn p.flags ≡ 0) × (rst p.flags ≡ 0))
      (λ j g. if_equal g.from p.from (if_below k j (both (equal (syn p.flags) 0) (equal (rst p.flags) 0)))) L))
      (both (is_live q L) (if_equal (rst p.flags) 1 (is_true (passes M (told M t₀ L) q)))))))

  abbrev fair_as_written : (x : Event ViewCall) (L : Seen) → Test (FairAsWritten M t₀ P x L)
  fair_as_written (send p) L =
      so (λ h. (h.0, λ reset. omega (arith, h.1 reset))) (both (fair (send p) L) (if_equal (rst p.flags) 1 (at_most 2 (stage_of (told M t₀ L).history))))
  fair_as_written (call q (opening k p)) L = opens k p q L
  fair_as_written (call q (arrival k p)) L = comes_as_written k p q L
  fair_as_written (call q other) L = so (λ not_ours ours-is. false-true (sym not_ours ∙ ours-is)) (is_false (passed_on_ours M (told M t₀ L) q))
  fair_as_written (delivery k p) L = has_passed k p L

  abbrev pub checked_as_written : (L : Seen) → Test (LegalAsWritten M t₀ P L)
  checked_as_written [] = yes tt
  checked_as_written (x ∷ L) = both (fair_as_written x L) (checked_as_written L)

  abbrev pub legal? : List (Event ViewCall) → Bool
  legal? L = (checked L).holds

  pub legal?-sound : (L : List (Event ViewCall)) → legal? L ≡ true → Legal M t₀ P L
  legal?-sound L e = (checked L).shows e
