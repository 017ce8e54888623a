-- An arrival of an honest segment at its live entry: it passes, and the entry that it leaves holds the history with it on top.
use Prim.Native.Nat.{ℕ, zero, suc, ◌+◌, ◌-◌, ◌<◌, ◌≤◌}
use mathlib.Core.Path.{◌≡◌, refl, ap, ◌∙◌}
use mathlib.Core.Bool.{Bool, true, false}
use mathlib.Core.List.{List, ◌∷◌}
use native.Mathlib.Omega.{arith}
use lib.Dec.{eqb}
use borrow.Author.Tests.{eqb-true, eqb-false}
use Rattle.choice.proofs.Choice.{when-either, when-cases, when-≤}
use Rattle.segment.specs.Flags.{rst, is_reset, ack}
use Rattle.segment.specs.declared.Segment.{Segment}
use Rattle.connection.specs.Ranges.{ack_range, widest}
use Rattle.connection.specs.Stages.{life_of, fins_after}
use Rattle.connection.specs.Decision.{pass, verdict_on, free, passed, opened, carried, repeated, answered, reset}
use Rattle.connection.specs.declared.Connection.{Connection}
use Rattle.connection.proofs.Stages.{1≤life_of, stage_after≥2, stage_after≤5}
use Rattle.history.specs.Numbers.{Numbers}
use Rattle.history.specs.History.{LineSegment, numbers_of, on_wire, judge, Holds}
use Rattle.history.proofs.Step.{Near, start-near, ack-near, ack_range-small}
use Rattle.history.proofs.Verdict.{Unanswered, Answered, spans, judged-answered, judged-unanswered}
use Rattle.history.proofs.Pass.{carried-holds, carried-answered, repeated-holds, repeated-unanswered, answered-holds, answered-answered, answerer-begins}
use Rattle.honest.specs.Rules.{Event, Pair, overtaking_allowance}
use Rattle.honest.proofs.Lists.{NoReset}
use Rattle.honest.proofs.Sends.{SentWith, InOrderAmong, First, Fact, Protocol, rises-more}
use Rattle.honest.proofs.Bounds as Bounds

-- What a pass that does not free leaves of side and deadline

pub record Renewed (c : Connection) (now : ℕ) (c' : Connection) : Type 0 where
  pub side : c'.side ≡ c.side
  pub deadline : c'.deadline ≡ now + life_of c'.stage
  pub life : 1 ≤ life_of c'.stage

pub opened-renewed :
    (side : ℕ) (g : Segment) (now : ℕ) →
    ((opened side g now).deadline ≡ now + life_of (opened side g now).stage) × (1 ≤ life_of (opened side g now).stage)
unfolding opened
opened-renewed side g now = (refl, 1≤life_of 1 (omega arith) (omega arith))

pub reset-renewed : (c : Connection) (now : ℕ) → Renewed c now (reset c now)
unfolding reset
reset-renewed c now = record { side = refl; deadline = refl; life = 1≤life_of 6 (omega arith) (omega arith) }

pub passed-renewed :
    (c : Connection) (i : ℕ) (g : Segment) (now : ℕ) → (rst g.flags ≡ 1 → 2 ≤ c.stage) →
    Renewed c now (passed c i g now)
unfolding passed carried repeated answered
passed-renewed c i g now kept =
    let fins = fins_after c.fins i g.flags in
    let known = stage_after≥2 c.stage fins i g.flags in
    let most = stage_after≤5 c.stage fins i g.flags in
    when-cases (Renewed c now) (is_reset g.flags) _ _
    (λ is_reset. rw (when-≤ {a = 2} {b = c.stage} (reset c now) free (kept (eqb-true _ _ is_reset))) (reset-renewed c now))
    (λ _. when-either (Renewed c now) _ _ _
    record { side = refl; deadline = refl; life = 1≤life_of _ (omega (arith, known)) (omega (arith, most)) }
    (when-either (Renewed c now) _ _ _
    record { side = refl; deadline = refl; life = 1≤life_of 1 (omega arith) (omega arith) }
    record { side = refl; deadline = refl; life = 1≤life_of 2 (omega arith) (omega arith) }))

-- Where the connection stands: only the opener's SYN has passed, or both ends' have

pub data Heard (P : Pair) (h : List LineSegment) : Type 0 where
  quiet : Unanswered h → P.start 0 + 1 ≤ (numbers_of 0 h).end → Heard P h
  both : Answered h → ((i : ℕ) → i < 2 → P.start i + 1 ≤ (numbers_of i h).end) → Heard P h

module _
    {Call : Type 0} (P : Pair) (h : List LineSegment) (Arrived : ℕ → LineSegment → Type 0) (L : List (Event Call))
    (inv : Protocol P h Arrived L) (c : Connection) (holds : Holds c h) (k : ℕ) (p : LineSegment) (s : ℕ) (sent : SentWith k p s L)
    (no_reset : NoReset p) where
  fact : Fact P h p s L
  fact = inv.facts k p s sent no_reset

  pub record Passing : Type 0 where
    pub verdict : verdict_on c p.from (on_wire p) ≡ pass
    pub holds_after : (now : ℕ) → Holds (passed c p.from (on_wire p) now) (p ∷ h)
    pub heard-after : Heard P (p ∷ h)

  -- from stage 2 on
  module _ (ordered : InOrderAmong Arrived overtaking_allowance k p L) (a : Answered h) (begun : (i : ℕ) → i < 2 → P.start i + 1 ≤ (numbers_of i h).end) where
    -- the allowance is what the range has past the largest window
    fits : widest + overtaking_allowance ≤ ack_range
    fits = omega arith

    other-known : 1 - p.from < 2
    other-known = omega (arith, fact.end_known)

    passes : judge h p ≡ pass
    passes = Bounds.judged-pass P h Arrived L inv overtaking_allowance k p s sent no_reset ordered fits a begun

    near : Near (numbers_of p.from h).end p.start
    near =
        start-near (numbers_of p.from h) (numbers_of (1 - p.from) h) p.start p.length
        (spans h a p.from fact.end_known) (spans h a (1 - p.from) other-known)
        (Bounds.bound-II P h Arrived L inv overtaking_allowance k p s sent no_reset ordered fits a begun)
        (Bounds.bound-I P h Arrived L inv overtaking_allowance k p s sent no_reset ordered fits a begun)

    near-ack : ack p.flags ≡ 1 → Near (numbers_of (1 - p.from) h).end p.acked
    near-ack acks =
        ack-near ack_range ack_range-small (numbers_of (1 - p.from) h) p.acked
        (Bounds.bound-III P h Arrived L inv overtaking_allowance k p s sent no_reset ordered fits a begun acks)
        (Bounds.bound-IV P h Arrived L inv overtaking_allowance k p s sent no_reset ordered fits a begun acks)

    later-passing : Passing
    later-passing = record {
      verdict = judged-answered c h holds p fact.end_known a near near-ack ∙ passes;
      holds_after = carried-holds c h holds p fact.end_known fact.formed fact.no_reset passes a;
      heard-after = both (carried-answered c h holds p fact.end_known fact.formed fact.no_reset passes a)
          (λ i known. omega (arith, begun i known, (rises-more p h).end i));
    }

  -- in stage 1
  module _ (u : Unanswered h) (begun : P.start 0 + 1 ≤ (numbers_of 0 h).end) where
    first-pass : judge h p ≡ pass
    first-pass = Bounds.judged-first P h Arrived L inv u begun k p s sent no_reset

    x : First P p s
    x = Bounds.sent-first P h Arrived L inv u begun k p s sent no_reset

    opener-end : (numbers_of 0 h).end ≡ P.start 0 + 1
    opener-end = Bounds.opener-end P h Arrived L inv u begun

    first-verdict : verdict_on c p.from (on_wire p) ≡ pass
    first-verdict =
        judged-unanswered c h holds p fact.end_known u
        (λ opener.
        let begins : P.start p.from ≡ P.start 0 = ap P.start opener in
        record { low = omega (arith, x.rule.start, opener-end); high = omega (arith, x.rule.start, opener-end) })
        (λ answerer. record { low = omega (arith, x.rule.acks answerer, opener-end); high = omega (arith, x.rule.acks answerer, opener-end) })
        ∙ first-pass

    first-passing : Passing
    first-passing = by_end (eqb p.from 0) refl
      where
        by_end : (t : Bool) → eqb p.from 0 ≡ t → Passing
        by_end true e =
            let opener = eqb-true p.from 0 e in
            record {
              verdict = first-verdict;
              holds_after = repeated-holds c h holds p fact.formed first-pass u opener;
              heard-after = quiet (repeated-unanswered c h holds p fact.formed first-pass u opener) (omega (arith, begun, (rises-more p h).end 0));
            }
        by_end false e =
            let answerer : p.from ≡ 1 = omega (arith, eqb-false p.from 0 e, fact.end_known) in
            record {
              verdict = first-verdict;
              holds_after = answered-holds c h holds p fact.formed first-pass u answerer fact.no_reset;
              heard-after = both (answered-answered c h holds p fact.formed first-pass u answerer fact.no_reset) (begun-both answerer);
            }
          where
            begun-both : p.from ≡ 1 → (i : ℕ) → i < 2 → P.start i + 1 ≤ (numbers_of i (p ∷ h)).end
            begun-both answerer zero known = omega (arith, begun, (rises-more p h).end 0)
            begun-both answerer (suc zero) known =
                let end = ap (λ (n : Numbers). n.end) (answerer-begins c h holds p fact.formed first-pass u answerer fact.no_reset) in
                let begins : P.start p.from ≡ P.start 1 = ap P.start answerer in
                omega (arith, end, x.rule.start)
            begun-both answerer (suc (suc i)) known = absurd (omega arith)

  pub passing : InOrderAmong Arrived overtaking_allowance k p L → Heard P h → Passing
  passing ordered (quiet u begun) = first-passing u begun
  passing ordered (both a begun) = later-passing ordered a begun
