-- Bounds I to IV at an arrival of an honest segment, and stage 1's three segments.
use Prim.Native.Nat.{ℕ, zero, suc, ◌+◌, ◌-◌, ◌<◌, ◌≤◌}
use mathlib.Core.Path.{◌≡◌, refl, sym, ap, subst, ◌∙◌}
use mathlib.Core.Logic.{⊎_elim}
use mathlib.Core.Bool.{Bool, true, false, ◌&&◌, ◌||◌, not}
use mathlib.Core.List.{List}
use native.Mathlib.Omega.{arith}
use lib.Dec.{eqb}
use borrow.Author.Tests.{eq-eqb, eqb-true, eqb-false, le-leb}
use Rattle.std.specs.Prelude.{Err}
use Rattle.choice.specs.Choice.{when◌then◌else◌, ◌=ᵇ◌}
use Rattle.choice.proofs.Choice.{when-true, when-false, when-=, when-=-not}
use Rattle.choice.proofs.Tests.{lt-or-ge}
use Rattle.segment.specs.Flags.{ack, SYN, SYN+ACK}
use Rattle.connection.specs.Ranges.{ack_range, widest}
use Rattle.connection.specs.Decision.{pass}
use Rattle.connection.specs.declared.SegmentError.TheVariants.{AckMissed}
use Rattle.history.specs.Numbers.{Numbers, bounds_i_ii, bounds_iii_iv}
use Rattle.history.specs.History.{LineSegment, numbers_of, stage_of, judge, same_syn_on_line, reply_on_line, judge_unanswered, Formed}
use Rattle.history.proofs.Step.{Spans}
use Rattle.history.proofs.Verdict.{Unanswered, Answered, spans}
use Rattle.honest.specs.Rules.{Event, Pair, highest, ack_of, end_of, highest_ack_at_sending, has_answer}
use Rattle.honest.proofs.Lists.{In, NoReset, highest-lub, end_by-mine, numbers_up, end-lub}
use Rattle.honest.proofs.Sends.{SentWith, snapshot-received, InOrderAmong, ack_from, Later, First, Fact, Protocol, FirstFacts, first-facts, answered-in, passed-sent}

module _
    {Call : Type 0} (P : Pair) (h : List LineSegment) (Arrived : ℕ → LineSegment → Type 0) (L : List (Event Call))
    (inv : Protocol P h Arrived L) where
  module _
      (allowance k : ℕ) (p : LineSegment) (s : ℕ) (sent : SentWith k p s L) (no_reset : NoReset p)
      (ordered : InOrderAmong Arrived allowance k p L) where
    fact : Fact P h p s L
    fact = inv.facts k p s sent no_reset

    -- The order of arrivals enters here alone: what has passed of the same end was sent no later, or may overtake p
    admitted :
        (g : LineSegment) → In g h → NoReset g → g.from ≡ p.from →
        (r : ℕ) × Fact P h g r L × (r ≤ p.start) × (ack g.flags ≡ 1 → ack p.flags ≡ 1 → g.acked ≤ p.acked + allowance)
    admitted g there none same =
        let a = passed-sent P h Arrived L inv g there none in
        let f = inv.facts a.0 g a.1 a.3 none in
        ⊎_elim
        (λ (later-sent : k < a.0).
        let o = ordered a.0 g a.2 same (omega (arith, none)) later-sent in (
          a.1,
          f,
          first-or-later a.0 g a.1 a.3 same f (omega (arith, o.sent_while)),
          λ acks acks'.
              let own : ack_of g ≡ g.acked = when-= _ _ acks in
              let p's : ack_of p ≡ p.acked = when-= _ _ acks' in
              omega (arith, o.acks_near),
        ))
        (λ (no-later : a.0 ≤ k).
        let o = inv.order a.0 g a.1 k p s a.3 sent none no_reset same no-later in
        (a.1, f, omega (arith, o.0, fact.snapshot-low), λ acks acks'. omega (arith, o.1 acks acks')))
        (lt-or-ge k a.0)
      where
        first-or-later :
            (j : ℕ) (g : LineSegment) (r : ℕ) → SentWith j g r L → g.from ≡ p.from → Fact P h g r L →
            highest_ack_at_sending g.from j L ≤ p.start → r ≤ p.start
        first-or-later j g r was same f low =
            let begins : P.start g.from ≡ P.start p.from = ap P.start same in
            ⊎_elim
            (λ (x : First P g r). omega (arith, x.own-start, x.rule.start, fact.from-syn))
            (λ (y : Later g r L). omega (arith, snapshot-received j g r L was y.no_syn))
            f.kind

    module _
        (fits : widest + allowance ≤ ack_range) (both-heard : Answered h)
        (begun : (i : ℕ) → i < 2 → P.start i + 1 ≤ (numbers_of i h).end) where
      F : Spans (numbers_of p.from h)
      F = spans h both-heard p.from fact.end_known

      begun-mine : P.start p.from + 1 ≤ (numbers_of p.from h).end
      begun-mine = begun p.from fact.end_known

      begun-theirs : P.start (1 - p.from) + 1 ≤ (numbers_of (1 - p.from) h).end
      begun-theirs = begun (1 - p.from) (omega (arith, fact.end_known))

      pub bound-I : end_of p ≤ (numbers_of p.from h).edge
      bound-I = omega (arith, fact.below-edge, begun-mine, F.ordered)

      pub bound-II : (numbers_of p.from h).end ≤ p.start + (numbers_of (1 - p.from) h).win
      bound-II = end-lub p.from _ h (λ g there mine none.
          let a = admitted g there none mine in
          let window : (numbers_of (1 - g.from) h).win ≡ (numbers_of (1 - p.from) h).win = ap (λ (j : ℕ). (numbers_of (1 - j) h).win) mine in
          omega (arith, a.1.in_window, a.2))

      pub bound-III : ack p.flags ≡ 1 → p.acked ≤ (numbers_of (1 - p.from) h).end
      bound-III acks = omega (arith, fact.acks-passed acks, begun-theirs)

      -- where each acknowledgement of this end that has passed is further by the allowance at most, so is the highest
      highest-ack-near :
          ((g : LineSegment) → In g h → NoReset g → g.from ≡ p.from → ack g.flags ≡ 1 → g.acked ≤ p.acked + allowance) →
          highest (ack_from p.from) h ≤ p.acked + allowance
      highest-ack-near each =
          highest-lub (ack_from p.from) _ h (λ g there none. by g there none (eqb g.from p.from) refl (eqb (ack g.flags) 1) refl)
        where
          by :
              (g : LineSegment) → In g h → NoReset g → (t : Bool) → eqb g.from p.from ≡ t → (u : Bool) → eqb (ack g.flags) 1 ≡ u →
              ack_from p.from g ≤ p.acked + allowance
          by g there none true e true a =
              rw (when-true (g.from =ᵇ p.from) (ack_of g) 0 e, when-true (ack g.flags =ᵇ 1) g.acked 0 a)
              (each g there none (eqb-true _ _ e) (eqb-true _ _ a))
          by g there none true e false a = rw (when-true (g.from =ᵇ p.from) (ack_of g) 0 e, when-false (ack g.flags =ᵇ 1) g.acked 0 a) (omega arith)
          by g there none false e u a = rw (when-false (g.from =ᵇ p.from) (ack_of g) 0 e) (omega arith)

      -- IV, for any largest window of this end and range
      ack-in-range :
          (largest range : ℕ) → largest + allowance ≤ range → (numbers_of p.from h).win ≤ largest →
          highest (ack_from p.from) h ≤ p.acked + allowance → ack p.flags ≡ 1 →
          (numbers_of (1 - p.from) h).end ≤ p.acked + range
      ack-in-range largest range wide most near acks = end-lub (1 - p.from) _ h (λ g there other none.
          let a = passed-sent P h Arrived L inv g there none in
          let f = inv.facts a.0 g a.1 a.3 none in
          let back : 1 - g.from ≡ p.from = omega (arith, fact.end_known) in
          let window : (numbers_of (1 - g.from) h).win ≡ (numbers_of p.from h).win = ap (λ (j : ℕ). (numbers_of j h).win) back in
          let heard : highest (ack_from (1 - g.from)) h ≡ highest (ack_from p.from) h = ap (λ (j : ℕ). highest (ack_from j) h) back in
          let begins : P.start g.from ≡ P.start (1 - p.from) = ap P.start other in
          omega (arith, f.in_window, f.snapshot-passed, fact.acks_syn acks))

      pub bound-IV : ack p.flags ≡ 1 → (numbers_of (1 - p.from) h).end ≤ p.acked + ack_range
      bound-IV acks =
          ack-in-range widest ack_range fits F.win-most (highest-ack-near (λ g there none same acks'. (admitted g there none same).3 acks' acks)) acks

      pub judged-pass : judge h p ≡ pass
      unfolding judge
      judged-pass =
          let later : stage_of h ≡ 1 → ⊥ = λ (e : stage_of h ≡ 1). omega (arith, both-heard.stage) in
          let in-range : bounds_i_ii (numbers_of p.from h) (numbers_of (1 - p.from) h) p.start p.length ≡ true =
          rw (le-leb _ _ bound-I, le-leb _ _ bound-II) in
          when-=-not _ _ later ∙ when-false _ _ _ (rw in-range) ∙ by-ack (eqb (ack p.flags) 1) refl
        where
          by-ack :
              (t : Bool) → eqb (ack p.flags) 1 ≡ t →
              (when (ack p.flags =ᵇ 1) && not (bounds_iii_iv ack_range (numbers_of (1 - p.from) h) p.acked) then Err AckMissed else pass) ≡ pass
          by-ack true e =
              let acks = eqb-true (ack p.flags) 1 e in
              let in-range : bounds_iii_iv ack_range (numbers_of (1 - p.from) h) p.acked ≡ true =
              rw (le-leb _ _ (bound-III acks), le-leb _ _ (bound-IV acks)) in
              when-false _ _ _ (rw (e, in-range))
          by-ack false e = when-false _ _ _ (rw e)

  -- In stage 1 neither end is answered, so each sends its first segment only

  module _ (quiet : Unanswered h) (begun : P.start 0 + 1 ≤ (numbers_of 0 h).end) where
    opener-unanswered : has_answer 0 L ≡ true → ⊥
    opener-unanswered e =
        let r = answered-in 0 L (omega arith) e in
        let there = inv.received 0 r.0 r.1 in
        let a = passed-sent P h Arrived L inv r.0 there.0 r.2 in
        let f = inv.facts a.0 r.0 a.1 a.3 r.2 in
        let answerer : r.0.from ≡ 1 = omega (arith, f.end_known, there.1) in
        let seen = rw (end_by-mine 1 r.0 f.no_reset answerer) at (numbers_up 1 r.0 h there.0).0 in
        let none = ap (λ (x : Numbers). x.end) quiet.unheard in
        let flags = r.4 refl in
        omega (arith, seen, none, f.formed.syn_alone (rw flags))

    -- a passed segment of the opener is its SYN
    opener-first : (g : LineSegment) → In g h → NoReset g → g.from ≡ 0 → (s : ℕ) × First P g s × Formed g
    opener-first g there none opener =
        let a = passed-sent P h Arrived L inv g there none in
        let f = inv.facts a.0 g a.1 a.3 none in (
          a.1,
          ⊎_elim (λ (x : First P g a.1). x)
              (λ (y : Later g a.1 L). absurd (opener-unanswered (subst (λ (j : ℕ). has_answer j L ≡ true) opener y.answered-now))) f.kind,
          f.formed,
        )

    answerer-unanswered : has_answer 1 L ≡ true → ⊥
    answerer-unanswered e =
        let r = answered-in 1 L (omega arith) e in
        let there = inv.received 1 r.0 r.1 in
        let a = passed-sent P h Arrived L inv r.0 there.0 r.2 in
        let f = inv.facts a.0 r.0 a.1 a.3 r.2 in
        let opener : r.0.from ≡ 0 = omega (arith, f.end_known, there.1) in
        let o = opener-first r.0 there.0 r.2 opener in
        omega (arith, (first-facts P r.0 o.2 o.1.rule).opener opener, r.3)

    unanswered-both : (i : ℕ) → i < 2 → has_answer i L ≡ true → ⊥
    unanswered-both zero known = opener-unanswered
    unanswered-both (suc zero) known = answerer-unanswered
    unanswered-both (suc (suc i)) known = absurd (omega arith)

    pub sent-first : (k : ℕ) (p : LineSegment) (s : ℕ) → SentWith k p s L → NoReset p → First P p s
    sent-first k p s sent none =
        let f = inv.facts k p s sent none in
        ⊎_elim (λ (x : First P p s). x) (λ (y : Later p s L). absurd (unanswered-both p.from f.end_known y.answered-now)) f.kind

    pub opener-end : (numbers_of 0 h).end ≡ P.start 0 + 1
    opener-end =
        let most : (numbers_of 0 h).end ≤ P.start 0 + 1 = end-lub 0 _ h (λ g there opener none.
        let o = opener-first g there none opener in
        let begins : P.start g.from ≡ P.start 0 = ap P.start opener in
        omega (arith, (first-facts P g o.2 o.1.rule).end)) in
        omega arith

    pub judged-first : (k : ℕ) (p : LineSegment) (s : ℕ) → SentWith k p s L → NoReset p → judge h p ≡ pass
    unfolding judge judge_unanswered same_syn_on_line reply_on_line
    judged-first k p s sent none = when-= _ _ quiet.stage ∙ by_end (eqb p.from 0) refl
      where
        f : Fact P h p s L
        f = inv.facts k p s sent none

        x : First P p s
        x = sent-first k p s sent none

        ff : FirstFacts P p
        ff = first-facts P p f.formed x.rule

        allowed : same_syn_on_line h p || reply_on_line h p ≡ true → judge_unanswered h p ≡ pass
        allowed = when-true _ _ _

        not_same : eqb p.from 0 ≡ false → same_syn_on_line h p ≡ false
        not_same e = rw e

        by_end : (t : Bool) → eqb p.from 0 ≡ t → judge_unanswered h p ≡ pass
        by_end true e =
            let opener = eqb-true p.from 0 e in
            let begins : P.start p.from ≡ P.start 0 = ap P.start opener in
            let start = eq-eqb (p.start + 1) (numbers_of 0 h).end (omega (arith, x.rule.start, opener-end)) in
            let same : same_syn_on_line h p ≡ true = rw (e, eq-eqb p.flags SYN (ff.opener opener), start) in
            allowed (rw same)
        by_end false e =
            let answerer : p.from ≡ 1 = omega (arith, eqb-false p.from 0 e, f.end_known) in
            let acked = eq-eqb p.acked (numbers_of 0 h).end (x.rule.acks answerer ∙ sym opener-end) in
            let is-reply : reply_on_line h p ≡ true = rw (eq-eqb p.from 1 answerer, acked, eq-eqb p.flags SYN+ACK (ff.answerer answerer)) in
            allowed (rw (not_same e, is-reply))
