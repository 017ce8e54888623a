-- Every pass and every opening gives a sound connection from a sound one, whatever the traffic.
use Prim.Native.Nat.{ℕ, zero, suc, ◌+◌, ◌-◌, ◌^◌, ◌<◌, ◌≤◌}
use mathlib.Core.Path.{◌≡◌, refl, sym, ap, ◌∙◌}
use mathlib.Core.Bool.{Bool, true, false, ◌||◌}
use mathlib.Core.Logic.{inl, inr}
use mathlib.Core.List.{List, [], ◌∷◌}
use native.Mathlib.Omega.{arith}
use lib.Dec.{eqb}
use borrow.Author.Tests.{leb-true, eq-eqb, eqb-true, eqb-false}
use Rattle.choice.specs.Choice.{◌≤ᵇ◌, ◌=ᵇ◌}
use Rattle.choice.proofs.Choice.{when-true, when-false, when-=, when-=-not, when-≠, when-≠-not}
use Rattle.choice.proofs.Tests.{&&-true}
use Rattle.serial.specs.Ring.{wrap, ring_plus, ring_minus}
use Rattle.serial.proofs.Ring.{wrap-injective, wrap-minus, wrap-counted, wrap-turn, wrap-id}
use Rattle.segment.specs.Flags.{rst, ack, SYN+ACK, ACK+RST}
use Rattle.segment.specs.declared.Segment.{Segment}
use Rattle.connection.specs.Ends.{sender, receiver, sent, granted, begun, ends_after}
use Rattle.connection.specs.Ranges.{sequence_met, ack_range, ack_met}
use Rattle.connection.specs.Stages.{fins_after, stage_after}
use Rattle.connection.specs.Decision.{pass, opened, repeated, answered, carried, reset, passed, same_syn, reply, verdict_unanswered, verdict_by_ranges, verdict_on}
use Rattle.connection.specs.Sound.{sound_end, sound_unanswered, sound_connection}
use Rattle.connection.specs.declared.Connection.{Connection}
use Rattle.connection.specs.declared.End.{End}
use Rattle.connection.proofs.Stages.{stage_after≥2}
use Rattle.connection.proofs.Sound.{sound_fins-to-3, sound_fins≤3, fins_after≤3, stage_after-sound, reset-sound, sound_end-true, true-sound_end, widened-sound, unheard-sound, life_of≤, Facts, sound-facts, facts-sound}
use Rattle.history.specs.Numbers.{Numbers, on_ring}
use Rattle.history.specs.History.{LineSegment, on_wire, placed_by, Formed}
use Rattle.history.specs.Kept.{OpenedSound, PassedSound}
use Rattle.history.specs.Records.{SeqNumsFit, TwoEnds}
use Rattle.history.proofs.Step.{Spans, Near, sequence-line, ack_range-small, ack-line, sent-line, granted-line, sent_to-spans, granted_to-spans}
use Rattle.history.proofs.Verdict.{two-sender, two-receiver}
use Rattle.history.proofs.Pass.{begun-line, ranges-met, allowed, of-answerer, passed-reset}
use Rattle.history.proofs.Demand2.{stands-near, on_wire-placed_by, placed-formed, pick_two}

-- One record

-- numbers on the line that a record stands for, a turn up
abbrev pub lifted : End → Numbers
lifted e = record { end = e.end.0 + 2 ^ 32; edge = e.end.0 + 2 ^ 32 + ring_minus e.edge.0 e.end.0; win = e.win.0 }

pub on_ring-lifted : (e : End) → SeqNumsFit e → on_ring (lifted e) ≡ e
on_ring-lifted e f =
    let up : wrap (e.end.0 + 2 ^ 32) ≡ e.end.0 = wrap-turn e.end.0 ∙ wrap-id e.end.0 f.end in
    let edge : wrap (e.end.0 + 2 ^ 32 + ring_minus e.edge.0 e.end.0) ≡ e.edge.0 =
    ap (λ (b : ℕ). wrap (e.end.0 + 2 ^ 32 + ring_minus e.edge.0 b)) (sym up) ∙ wrap-counted (e.end.0 + 2 ^ 32) e.edge.0 f.edge in
    λ k. record { end = record { 0 = up k }; edge = record { 0 = edge k }; win = e.win }

pub lifted-spans : (e : End) → sound_end e ≡ true → Spans (lifted e)
lifted-spans e sound =
    let s = sound_end-true e sound in
    record { begun = omega arith; ordered = omega arith; near = omega (arith, s.2); win-some = s.0; win-most = s.1 }

pub spans-sound : (x : Numbers) → Spans x → sound_end (on_ring x) ≡ true
spans-sound x s =
    true-sound_end (on_ring x) s.win-some s.win-most
    (omega (arith, s.near, wrap-minus x.edge x.end s.ordered (omega (arith, s.near))))

-- an end that gets a right edge by an acknowledgement of no more than it sent
granted-sound :
    (e : End) (p : LineSegment) → SeqNumsFit e → Formed p → sound_end e ≡ true → Near (lifted e).end p.acked → p.acked ≤ (lifted e).end →
    sound_end (granted e (on_wire p)) ≡ true
granted-sound e p f formed sound near below =
    let s = lifted-spans e sound in
    let line = granted-line (lifted e) s p near below formed.window_fits in
    rw (← on_ring-lifted e f, line) (spans-sound _ (granted_to-spans (lifted e) p.acked p.window s below formed.window_fits))

-- an end that a SYN opens
begun-sound : (p : LineSegment) → Formed p → sound_end (begun (on_wire p)) ≡ true
begun-sound p formed =
    rw (begun-line p)
    (spans-sound _ record { begun = omega arith; ordered = omega arith; near = omega arith; win-some = omega arith; win-most = omega (arith, formed.window_fits) })

-- A pass from stage 2 on

-- what holds of F and of T after it holds of both records
both-after :
    (P : End → Type 0) (x : ℕ → End) (i : ℕ) (g : Segment) → i < 2 → P (sent (x i) g) →
    (ack g.flags ≡ 1 → P (granted (x (1 - i)) g)) → P (x (1 - i)) →
    P (sender (ends_after (x 0 ∷ x 1 ∷ []) i g) 0) × P (sender (ends_after (x 0 ∷ x 1 ∷ []) i g) 1)
unfolding ends_after
both-after P x i g side f t u = by-ack (eqb (ack g.flags) 1) refl i side f t u
  where
    by-ack :
        (b : Bool) → eqb (ack g.flags) 1 ≡ b → (i : ℕ) → i < 2 → P (sent (x i) g) →
        (ack g.flags ≡ 1 → P (granted (x (1 - i)) g)) → P (x (1 - i)) →
        P (sender (ends_after (x 0 ∷ x 1 ∷ []) i g) 0) × P (sender (ends_after (x 0 ∷ x 1 ∷ []) i g) 1)
    by-ack true e zero s f t u = rw (when-true (eqb (ack g.flags) 1) _ _ e) (f, t (eqb-true _ _ e))
    by-ack true e (suc zero) s f t u = rw (when-true (eqb (ack g.flags) 1) _ _ e) (t (eqb-true _ _ e), f)
    by-ack false e zero s f t u = rw (when-false (eqb (ack g.flags) 1) _ _ e) (f, u)
    by-ack false e (suc zero) s f t u = rw (when-false (eqb (ack g.flags) 1) _ _ e) (u, f)
    by-ack b e (suc (suc i)) s f t u = absurd (omega arith)

module _ (clock : ℕ) (c : Connection) (x : ℕ → End) (ends : TwoEnds c x) (sound : Facts clock c) (now : ℕ) (p : LineSegment) (formed : Formed p) (side : p.from < 2) (passes : verdict_on c p.from (on_wire p) ≡ pass) where
  sound-end : (i : ℕ) → i < 2 → sound_end (x i) ≡ true
  sound-end = pick_two (λ k. sound_end (x k) ≡ true)
      (rw ends.two at sound.opener) (rw ends.two at sound.answerer)

  fits : (i : ℕ) → i < 2 → SeqNumsFit (x i)
  fits = pick_two (λ k. SeqNumsFit (x k)) ends.opener ends.answerer

  -- from stage 2 on
  module _ (later : c.stage ≡ 1 → ⊥) (start : Near (lifted (x p.from)).end p.start) (acked : Near (lifted (x (1 - p.from))).end p.acked) where
    other-side : 1 - p.from < 2
    other-side = omega arith

    F : Spans (lifted (x p.from))
    F = lifted-spans (x p.from) (sound-end p.from side)

    T : Spans (lifted (x (1 - p.from)))
    T = lifted-spans (x (1 - p.from)) (sound-end (1 - p.from) other-side)

    is_f : on_ring (lifted (x p.from)) ≡ x p.from
    is_f = on_ring-lifted (x p.from) (fits p.from side)

    is_t : on_ring (lifted (x (1 - p.from))) ≡ x (1 - p.from)
    is_t = on_ring-lifted (x (1 - p.from)) (fits (1 - p.from) other-side)

    met : (sequence_met (x p.from) (x (1 - p.from)) (on_wire p) ≡ true) × (eqb (ack p.flags) 1 ≡ true → ack_met ack_range (x (1 - p.from)) (on_wire p) ≡ true)
    unfolding verdict_on verdict_by_ranges
    met =
        rw (ap (λ (l : List End). sender l p.from) ends.two ∙ two-sender x p.from side, ap (λ (l : List End). receiver l p.from) ends.two ∙ two-receiver x p.from side) at
        (ranges-met (sequence_met (sender c.ends p.from) (receiver c.ends p.from) (on_wire p)) (eqb (ack p.flags) 1) (ack_met ack_range (receiver c.ends p.from) (on_wire p)) (sym (when-=-not _ _ later) ∙ passes))

    bounds : ((lifted (x p.from)).end ≤ p.start + (lifted (x (1 - p.from))).win) × (p.start + p.length ≤ (lifted (x p.from)).edge)
    bounds =
        let line = sequence-line (lifted (x p.from)) (lifted (x (1 - p.from))) F T p start in
        let b = &&-true (p.start + p.length ≤ᵇ (lifted (x p.from)).edge) ((lifted (x p.from)).end ≤ᵇ p.start + (lifted (x (1 - p.from))).win) (sym line ∙ rw (is_f, is_t) met.0) in
        (leb-true _ _ b.1, leb-true _ _ b.0)

    acked-below : ack p.flags ≡ 1 → p.acked ≤ (lifted (x (1 - p.from))).end
    acked-below acks =
        let line = ack-line (lifted (x (1 - p.from))) T p ack_range ack_range-small acked in
        leb-true _ _ (&&-true (p.acked ≤ᵇ (lifted (x (1 - p.from))).end) _ (sym line ∙ rw is_t (met.1 (eq-eqb _ _ acks)))).0

    sent-sound : sound_end (sent (x p.from) (on_wire p)) ≡ true
    sent-sound =
        let line = sent-line (lifted (x p.from)) (lifted (x (1 - p.from))) F T p bounds.0 bounds.1 in
        rw (← is_f, line) (spans-sound _ (sent_to-spans (lifted (x p.from)) (p.start + p.length) p.window F bounds.1 formed.window_fits))

    other-sound : ack p.flags ≡ 1 → sound_end (granted (x (1 - p.from)) (on_wire p)) ≡ true
    other-sound acks = granted-sound (x (1 - p.from)) p (fits (1 - p.from) other-side) formed (sound-end (1 - p.from) other-side) acked (acked-below acks)

    carried-sound : (rst p.flags ≡ 1 → ⊥) → sound_connection now (passed c p.from (on_wire p) now) ≡ true
    unfolding passed carried sound_unanswered
    carried-sound no_reset =
        let g = on_wire p in
        let fins = fins_after≤3 c.fins p.from p.flags (sound_fins≤3 c.stage c.fins sound.fins) in
        let stage = stage_after-sound c.stage (fins_after c.fins p.from p.flags) p.from p.flags fins in
        let records = both-after (λ e. sound_end e ≡ true) x p.from g side sent-sound other-sound (sound-end (1 - p.from) other-side) in
        let goes : passed c p.from g now ≡ carried c p.from g now = when-=-not _ _ no_reset ∙ when-≠ _ _ later in
        rw goes
        (facts-sound now (carried c p.from g now) record {
          stage-some = stage.some;
          stage-most = stage.most;
          side = sound.side;
          fins = stage.bits;
          deadline = omega (arith, life_of≤ (stage_after c.stage (fins_after c.fins p.from p.flags) p.from p.flags));
          opener = rw ends.two records.0;
          answerer = rw ends.two records.1;
          unanswered = when-=-not _ _ (λ (e : stage_after c.stage (fins_after c.fins p.from p.flags) p.from p.flags ≡ 1). omega (arith, stage_after≥2 c.stage (fins_after c.fins p.from p.flags) p.from p.flags));
        })

  -- a reset leaves the records as they are
  reset-leaves-sound : 2 ≤ c.stage → rst p.flags ≡ 1 → sound_connection now (passed c p.from (on_wire p) now) ≡ true
  unfolding reset sound_unanswered
  reset-leaves-sound later is_reset =
      let stage = reset-sound c.fins (sound_fins≤3 c.stage c.fins sound.fins) in
      rw (passed-reset c p.from (on_wire p) now is_reset later)
      (facts-sound now (reset c now) record {
        stage-some = stage.some;
        stage-most = stage.most;
        side = sound.side;
        fins = stage.bits;
        deadline = omega (arith, life_of≤ 6);
        opener = sound.opener;
        answerer = sound.answerer;
        unanswered = when-=-not {a = 6} {b = 1} _ _ (λ (e : 6 ≡ 1). omega arith);
      })

  -- the same SYN again, and the SYN+ACK
  module _ (first : c.stage ≡ 1) (no_reset : rst p.flags ≡ 1 → ⊥) where
    repeated-sound : p.from ≡ 0 → sound_connection now (passed c p.from (on_wire p) now) ≡ true
    unfolding passed repeated sound_unanswered
    repeated-sound opener =
        let goes : passed c p.from (on_wire p) now ≡ repeated c (on_wire p) now = when-=-not _ _ no_reset ∙ when-≠-not _ _ first ∙ when-= _ _ opener in
        rw goes
        (facts-sound now (repeated c (on_wire p) now) record {
          stage-some = omega arith;
          stage-most = omega arith;
          side = sound.side;
          fins = sound_fins-to-3 1 0 (omega arith);
          deadline = omega (arith, life_of≤ 1);
          opener = rw ends.two (widened-sound (x 0) p.window formed.window_fits (sound-end 0 (omega arith)));
          answerer = rw ends.two (sound-end 1 (omega arith));
          unanswered = rw ends.two (rw (first, ends.two) at sound.unanswered);
        })

    -- the SYN+ACK acknowledges just what the opener sent
    acks-end : p.from ≡ 1 → Near (lifted (x 0)).end p.acked → p.acked ≡ (lifted (x 0)).end
    unfolding verdict_on verdict_unanswered same_syn reply
    acks-end answerer near =
        let b = &&-true (eqb (wrap p.acked) (sender c.ends 0).end.0) ((p.flags =ᵇ SYN+ACK) || (p.flags =ᵇ ACK+RST)) (of-answerer p.from _ _ answerer (allowed _ (sym (when-= _ _ first) ∙ passes))) in
        let acked : wrap p.acked ≡ (x 0).end.0 = rw ends.two at (eqb-true (wrap p.acked) (sender c.ends 0).end.0 b.0) in
        let same : (x 0).end.0 ≡ wrap (lifted (x 0)).end = sym (wrap-turn (x 0).end.0 ∙ wrap-id (x 0).end.0 ends.opener.end) in
        wrap-injective p.acked (lifted (x 0)).end (acked ∙ same) (omega (arith, near.high)) (omega (arith, near.low))

    answered-sound : p.from ≡ 1 → Near (lifted (x 0)).end p.acked → sound_connection now (passed c p.from (on_wire p) now) ≡ true
    unfolding passed answered sound_unanswered
    answered-sound answerer near =
        let goes : passed c p.from (on_wire p) now ≡ answered c (on_wire p) now = when-=-not _ _ no_reset ∙ when-≠-not _ _ first ∙ when-=-not _ _ (λ (e : p.from ≡ 0). omega arith) in
        rw goes
        (facts-sound now (answered c (on_wire p) now) record {
          stage-some = omega arith;
          stage-most = omega arith;
          side = sound.side;
          fins = sound_fins-to-3 2 0 (omega arith);
          deadline = omega (arith, life_of≤ 2);
          opener = rw ends.two (granted-sound (x 0) p ends.opener formed (sound-end 0 (omega arith)) near (omega (arith, acks-end answerer near)));
          answerer = begun-sound p formed;
          unanswered = when-=-not {a = 2} {b = 1} _ _ (λ (e : 2 ≡ 1). omega arith);
        })

  by-stage :
      Near (lifted (x p.from)).end p.start → Near (lifted (x (1 - p.from))).end p.acked →
      (rst p.flags ≡ 1 → 2 ≤ c.stage) →
      sound_connection now (passed c p.from (on_wire p) now) ≡ true
  by-stage start acked kept = cases (eqb c.stage 1) refl
    where
      -- from stage 2 on
      by-reset :
          (c.stage ≡ 1 → ⊥) → (t : Bool) → eqb (rst p.flags) 1 ≡ t →
          sound_connection now (passed c p.from (on_wire p) now) ≡ true
      by-reset later true e = let is_reset = eqb-true _ _ e in reset-leaves-sound (kept is_reset) is_reset
      by-reset later false e = carried-sound later start acked (eqb-false _ _ e)

      -- in stage 1
      no_reset : c.stage ≡ 1 → rst p.flags ≡ 1 → ⊥
      no_reset first is_reset = omega (arith, kept is_reset)

      by-sender :
          (first : c.stage ≡ 1) (t : Bool) → eqb p.from 0 ≡ t →
          sound_connection now (passed c p.from (on_wire p) now) ≡ true
      by-sender first true e = repeated-sound first (no_reset first) (eqb-true p.from 0 e)
      by-sender first false e =
          let answerer : p.from ≡ 1 = omega (arith, eqb-false p.from 0 e) in
          let none : 1 - p.from ≡ 0 = omega arith in
          answered-sound first (no_reset first) answerer (rw none at acked)

      cases : (t : Bool) → eqb c.stage 1 ≡ t → sound_connection now (passed c p.from (on_wire p) now) ≡ true
      cases false e = by-reset (eqb-false c.stage 1 e) (eqb (rst p.flags) 1) refl
      cases true e = by-sender (eqb-true c.stage 1 e) (eqb p.from 0) refl

-- The theorems

-- an opening is sound
pub opened-sound : OpenedSound
unfolding opened sound_unanswered
opened-sound side g now known r =
    let wire = on_wire-placed_by 0 0 0 g r (inl refl) (inl refl) in
    facts-sound now (opened side g now) record {
      stage-some = omega arith;
      stage-most = omega arith;
      side = known;
      fins = sound_fins-to-3 1 0 (omega arith);
      deadline = omega (arith, life_of≤ 1);
      opener = ap (λ (k : Segment). sound_end (begun k)) (sym wire) ∙ begun-sound (placed_by 0 0 0 g) (placed-formed 0 0 0 g r);
      answerer = unheard-sound;
      unanswered = when-= {a = 1} {b = 1} _ _ refl ∙ rw (eq-eqb (ring_plus g.seq.0 1) (ring_plus g.seq.0 1) refl);
    }

-- a pass of a sound connection leaves it sound, unless it frees it
pub passed-sound : PassedSound
passed-sound clock c x ends sound i side g r now passes kept =
    let E = (lifted (x i)).end in
    let E' = (lifted (x (1 - i))).end in
    let wire = on_wire-placed_by (lifted (x i)).end (lifted (x (1 - i))).end i g r (inr (omega arith)) (inr (omega arith)) in
    ap (λ (k : Segment). sound_connection now (passed c i k now)) (sym wire)
    ∙ by-stage clock c x ends (sound-facts clock c sound) now (placed_by E E' i g) (placed-formed E E' i g r) side (ap (verdict_on c i) wire ∙ passes)
    (stands-near E g.seq.0 (omega arith)) (stands-near E' g.ack.0 (omega arith)) kept
