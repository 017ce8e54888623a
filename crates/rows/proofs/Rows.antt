-- Each row by the fact that its test asks for, and what a call comes to.
use Prim.Native.Nat.{ℕ, ◌-◌, ◌≤◌, ◌<◌}
use mathlib.Core.Path.{◌≡◌, refl, ap, ◌∙◌}
use mathlib.Core.Logic.{◌⊎◌, inl, inr}
use mathlib.Core.Bool.{Bool, true, false, and-false}
use native.Mathlib.Omega.{arith}
use borrow.Author.Tests.{le-leb, leb-true, eq-eqb, ne_eqb, eqb-true, ltb-true}
use Rattle.std.specs.Prelude.{Option, Some, None, Ok, Err}
use Rattle.choice.specs.Choice.{when◌then◌else◌, ◌<ᵇ◌, ◌=ᵇ◌}
use Rattle.choice.proofs.Choice.{when-true, when-false, when-either, when-=, when-=-not}
use Rattle.choice.proofs.Tests.{&&-true}
use Rattle.address.specs.declared.Flow.{Flow}
use Rattle.segment.specs.declared.Segment.{Segment}
use Rattle.connection.specs.Decision.{Verdict, pass, verdict_number}
use Rattle.connection.specs.declared.SegmentError.TheVariants.{NotAllowed, SequenceMissed, AckMissed}
use Rattle.rows.specs.Rows as rows
use Rattle.rows.specs.Rows.{Bodies, Entry, View, Outcome, Blocked, Passed, is_opening, nowhere, free_entry, from_opener, from_answerer, live_match, vacant, VacantWhereFreeOrExpired, lowest_vacant, sender_of, SenderMatches, entry_with, entry_after, by_verdict, on_entry, opening_entry, on_vacant, unmatched, on_found, on_segment, answer_of, after}
use Rattle.rows.proofs.Places.{found-passes, found-is-first}

module _ (B : Bodies) where
  -- the sender is the opener, 0, or the answerer, 1
  pub sender_known : (e : Entry B) (side : ℕ) → sender_of B e side < 2
  unfolding sender_of
  sender_known e side = when-either (λ i. i < 2) _ _ _ (omega arith) (omega arith)

  -- the end that the segment matches as
  pub sender-opener : (e : Entry B) (side : ℕ) (k : Flow) → from_opener B e side k ≡ true → sender_of B e side ≡ 0
  unfolding sender_of from_opener
  sender-opener e side k is = when-true _ _ _ (&&-true (side =ᵇ B.side e.connection) _ is).0

  pub sender-answerer : (e : Entry B) (side : ℕ) (k : Flow) → from_answerer B e side k ≡ true → sender_of B e side ≡ 1
  unfolding sender_of from_answerer
  sender-answerer e side k is =
      let other = eqb-true side (1 - B.side e.connection) (&&-true (side =ᵇ 1 - B.side e.connection) _ is).0 in
      when-false _ _ _ (ne_eqb side (B.side e.connection) (λ (same : side ≡ B.side e.connection). omega arith))

  pub sender-matches : SenderMatches B
  sender-matches e side k = (sender-opener e side k, sender-answerer e side k)

  -- a free entry's deadline is 0
  free-or-expired : (now : ℕ) (e : Entry B) → (e ≡ free_entry B) ⊎ (B.deadline e.connection ≤ now) → B.deadline e.connection ≤ now
  free-or-expired now e (inl free) = omega (arith, ap (λ (x : Entry B). B.deadline x.connection) free ∙ B.free_deadline)
  free-or-expired now e (inr expired) = expired

  pub vacant-where-free-or-expired : VacantWhereFreeOrExpired B
  unfolding vacant
  vacant-where-free-or-expired now e = ((λ is. inr (leb-true _ _ is)), (λ either. le-leb _ _ (free-or-expired now e either)))

  -- an entry that a pass has freed is free, addresses and ports too; any other keeps them
  pub freed-entry : (e : Entry B) (left : B.Body) → B.freed left ≡ true → entry_with B e left ≡ free_entry B
  unfolding entry_with
  freed-entry e left is = when-true _ _ _ is

  pub kept_entry : (e : Entry B) (left : B.Body) → B.freed left ≡ false → entry_with B e left ≡ record { key = e.key; connection = left }
  unfolding entry_with
  kept_entry e left is = when-false _ _ _ is

  pub on_entry-by-verdict :
      (e : Entry B) (p now side : ℕ) (g : Segment) (v : Verdict) → B.verdict e.connection (sender_of B e side) g ≡ v →
      on_entry B e p now side g ≡ by_verdict B v (Passed p now (entry_after B e (sender_of B e side) g now))
  unfolding on_entry
  on_entry-by-verdict e p now side g v h = rw h

  -- where none matches the answer is 11, 12 or 0
  pub unmatched-answer : (v : View B) (now side : ℕ) (k : Flow) (g : Segment) → answer_of B (unmatched B v now side k g) ≤ 12
  unfolding unmatched
  unmatched-answer v now side k g =
      when-either (λ (o : Outcome B). answer_of B o ≤ 12) (is_opening side g) _ _ (taken (lowest_vacant B v now)) (omega arith)
    where
      taken : (r : Option ℕ) → answer_of B (on_vacant B r now side k g) ≤ 12
      taken None = omega arith
      taken (Some p) = omega arith

  -- a verdict's number is the answer
  pub answer-by-verdict : (w : Verdict) (p now : ℕ) (e : Entry B) → answer_of B (by_verdict B w (Passed p now e)) ≡ verdict_number w
  answer-by-verdict (Ok x) p now e = refl
  answer-by-verdict (Err reason) p now e = refl

  module _ (v : View B) (now side : ℕ) (k : Flow) (g : Segment) where
    pub unmatched-not-from-side-0 : (side ≡ 0 → ⊥) → unmatched B v now side k g ≡ Blocked 11 nowhere
    unfolding unmatched when◌then◌else◌
    unmatched-not-from-side-0 h = rw (ne_eqb side 0 h)

    pub unmatched-not-syn : (g.flags ≡ 2 → ⊥) → unmatched B v now side k g ≡ Blocked 11 nowhere
    unfolding unmatched when◌then◌else◌
    unmatched-not-syn h = rw (ne_eqb g.flags 2 h, and-false (side =ᵇ 0))

    pub unmatched-syn :
        side ≡ 0 → g.flags ≡ 2 → (o : Option ℕ) → lowest_vacant B v now ≡ o →
        unmatched B v now side k g ≡ on_vacant B o now side k g
    unfolding unmatched when◌then◌else◌
    unmatched-syn h f o e = rw (eq-eqb side 0 h, eq-eqb g.flags 2 f, e)

    pub on_segment-by-search :
        (o : Option ℕ) → rows.search B v now side k ≡ o →
        on_segment B v now side k g ≡ on_found B o v now side k g
    unfolding on_segment
    on_segment-by-search o e = ap (λ (x : Option ℕ). on_found B x v now side k g) e

    -- the search takes the first live match from place 0 up
    pub found_first :
        (p : ℕ) → rows.search B v now side k ≡ Some p →
        (live_match B now side k (v.entry p) ≡ true) × ((q : ℕ) → q < p → live_match B now side k (v.entry q) ≡ false)
    found_first p found = found-is-first _ _ p found

    -- an opening takes the lowest place that is free or expired
    pub vacant-lowest :
        (p : ℕ) → lowest_vacant B v now ≡ Some p →
        (vacant B now (v.entry p) ≡ true) × ((q : ℕ) → q < p → vacant B now (v.entry q) ≡ false)
    vacant-lowest p found = found-is-first _ _ p found

    -- a match that is found is one of the places, and live
    pub found-live : (p : ℕ) → rows.search B v now side k ≡ Some p → (p < v.places) × (now < B.deadline (v.entry p).connection)
    unfolding live_match
    found-live p found =
        let f = found-passes _ _ _ _ found in
        (omega (arith, f.2), ltb-true _ _ (&&-true (now <ᵇ B.deadline (v.entry p).connection) _ f.0).0)

    -- What a call comes to: it is blocked, by a row from 11 to 15; it passes on the live match found; or it makes an entry where none was

    pub data Comes (o : Outcome B) : Type 0 where
      blocks : (n : ℕ) → o ≡ Blocked n nowhere → 11 ≤ n → n ≤ 15 → Comes o
      passes :
          (p : ℕ) → o ≡ Passed p now (entry_after B (v.entry p) (sender_of B (v.entry p) side) g now) →
          rows.search B v now side k ≡ Some p → p < v.places → now < B.deadline (v.entry p).connection →
          B.verdict (v.entry p).connection (sender_of B (v.entry p) side) g ≡ pass →
          Comes o
      makes :
          (p : ℕ) → o ≡ Passed p now (opening_entry B now side k g) → rows.search B v now side k ≡ None → p < v.places →
          is_opening side g ≡ true →
          Comes o

    by-verdict : (p : ℕ) → rows.search B v now side k ≡ Some p → Comes (on_entry B (v.entry p) p now side g)
    by-verdict p found = let f = found-live p found in go _ refl f.0 f.1
      where
        go :
            (w : Verdict) → B.verdict (v.entry p).connection (sender_of B (v.entry p) side) g ≡ w → p < v.places →
            now < B.deadline (v.entry p).connection →
            Comes (on_entry B (v.entry p) p now side g)
        go (Ok x) is inside live = passes p (on_entry-by-verdict (v.entry p) p now side g _ is) found inside live is
        go (Err NotAllowed) is inside live = blocks 13 (on_entry-by-verdict (v.entry p) p now side g _ is) (omega arith) (omega arith)
        go (Err SequenceMissed) is inside live = blocks 14 (on_entry-by-verdict (v.entry p) p now side g _ is) (omega arith) (omega arith)
        go (Err AckMissed) is inside live = blocks 15 (on_entry-by-verdict (v.entry p) p now side g _ is) (omega arith) (omega arith)

    by-vacant : rows.search B v now side k ≡ None → Comes (unmatched B v now side k g)
    unfolding unmatched when◌then◌else◌
    by-vacant none = go (is_opening side g) refl (lowest_vacant B v now) refl
      where
        go : (t : Bool) → is_opening side g ≡ t → (r : Option ℕ) → lowest_vacant B v now ≡ r → Comes (unmatched B v now side k g)
        go false closed r is = blocks 11 (rw closed) (omega arith) (omega arith)
        go true opening None is = blocks 12 (rw (is, opening)) (omega arith) (omega arith)
        go true opening (Some p) is = makes p (rw (is, opening)) none (omega (arith, (found-passes _ _ _ _ is).2)) opening

    pub comes : Comes (on_segment B v now side k g)
    unfolding on_segment
    comes = go (rows.search B v now side k) refl
      where
        go : (r : Option ℕ) → rows.search B v now side k ≡ r → Comes (on_found B r v now side k g)
        go (Some p) found = by-verdict p found
        go None none = by-vacant none

  -- What an outcome leaves

  -- every answer but a pass changes nothing
  pub refusal-keeps : (v : View B) (o : Outcome B) → (answer_of B o ≡ 0 → ⊥) → after B v o ≡ v
  refusal-keeps v (Blocked n place) refused = refl
  refusal-keeps v (Passed p now e) refused = absurd (refused refl)

  -- a pass changes only the header clock and its entry
  module _ (v : View B) (p now : ℕ) (e : Entry B) where
    pub pass-writes : (after B v (Passed p now e)).entry p ≡ e
    pass-writes = when-= {a = p} {b = p} e (v.entry p) refl

    pub pass-keeps : (q : ℕ) → (q ≡ p → ⊥) → (after B v (Passed p now e)).entry q ≡ v.entry q
    pass-keeps q elsewhere = when-=-not e (v.entry q) elsewhere
