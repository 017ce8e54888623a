-- Two kinds of entry that agree on key, side, deadline, verdicts and passes: over both, a call comes to the same.
use Prim.Native.Nat.{ℕ, ◌<◌, max}
use mathlib.Core.Path.{◌≡◌, refl, ap, subst, ◌∙◌}
use mathlib.Core.Bool.{true}
use native.Mathlib.Omega.{arith}
use Rattle.std.specs.Prelude.{Option, Some, None, Ok, Err}
use Rattle.choice.specs.Choice.{◌=ᵇ◌}
use Rattle.choice.proofs.Choice.{when-both}
use Rattle.address.specs.declared.Flow.{Flow}
use Rattle.segment.specs.declared.Segment.{Segment}
use Rattle.connection.specs.Decision.{Verdict, pass}
use Rattle.rows.specs.Places.{first_from}
use Rattle.rows.specs.Rows as rows
use Rattle.rows.specs.Rows.{Bodies, Ask, is_opening, Entry, View, Outcome, Blocked, Passed, free_entry, from_opener, from_answerer, live_match, vacant, lowest_vacant, sender_of, entry_after, by_verdict, on_entry, opening_entry, on_vacant, unmatched, on_found, on_segment, clock_used, filter, answer_of, place_by, after}
use Rattle.rows.proofs.Places.{first-same}
use Rattle.rows.proofs.Rows.{sender_known, found-live}

module _ {B C : Bodies} where
  -- what is asked of a relation between entries, for segments that are fit
  pub record Agreeing (R : Entry B → Entry C → Type 0) (Fit : Segment → Type 0) : Type 0 where
    pub key : {e : Entry B} {f : Entry C} → R e f → e.key ≡ f.key
    pub side : {e : Entry B} {f : Entry C} → R e f → B.side e.connection ≡ C.side f.connection
    pub deadline : {e : Entry B} {f : Entry C} → R e f → B.deadline e.connection ≡ C.deadline f.connection
    pub free : R (free_entry B) (free_entry C)
    pub made :
        (now side : ℕ) (k : Flow) (g : Segment) → Fit g → is_opening side g ≡ true →
        R (opening_entry B now side k g) (opening_entry C now side k g)
    -- of live entries
    pub verdict :
        {e : Entry B} {f : Entry C} (i : ℕ) (g : Segment) → R e f → 0 < B.deadline e.connection → i < 2 → Fit g →
        B.verdict e.connection i g ≡ C.verdict f.connection i g
    pub passed :
        {e : Entry B} {f : Entry C} (i : ℕ) (g : Segment) (now : ℕ) → R e f → 0 < B.deadline e.connection → i < 2 → Fit g →
        B.verdict e.connection i g ≡ pass →
        R (entry_after B e i g now) (entry_after C f i g now)

  module _ (R : Entry B → Entry C → Type 0) where
    pub record Related (v : View B) (u : View C) : Type 0 where
      pub clock : v.clock ≡ u.clock
      pub places : v.places ≡ u.places
      pub entries : (p : ℕ) → R (v.entry p) (u.entry p)

    -- the same answer and place; or a pass at the same place by the same clock, with related entries
    abbrev pub Alike : Outcome B → Outcome C → Type 0
    Alike (Blocked m at) (Blocked n at') = (m ≡ n) × (at ≡ at')
    Alike (Blocked m at) (Passed q now f) = ⊥
    Alike (Passed p now e) (Blocked n at') = ⊥
    Alike (Passed p now e) (Passed q now' f) = (p ≡ q) × (now ≡ now') × R e f

    pub answer-alike : (o : Outcome B) (o' : Outcome C) → Alike o o' → answer_of B o ≡ answer_of C o'
    answer-alike (Blocked m at) (Blocked n at') same = same.0
    answer-alike (Blocked m at) (Passed q now f) same = absurd same
    answer-alike (Passed p now e) (Blocked n at') same = absurd same
    answer-alike (Passed p now e) (Passed q now' f) same = refl

    pub place-alike : (number : ℕ → ℕ) (o : Outcome B) (o' : Outcome C) → Alike o o' → place_by number o ≡ place_by number o'
    place-alike number (Blocked m at) (Blocked n at') same = same.1
    place-alike number (Blocked m at) (Passed q now f) same = absurd same
    place-alike number (Passed p now e) (Blocked n at') same = absurd same
    place-alike number (Passed p now e) (Passed q now' f) same = ap number same.0

    pub after-alike :
        (v : View B) (u : View C) → Related v u → (o : Outcome B) (o' : Outcome C) → Alike o o' →
        Related (after B v o) (after C u o')
    after-alike v u related (Blocked m at) (Blocked n at') same = related
    after-alike v u related (Blocked m at) (Passed q now f) same = absurd same
    after-alike v u related (Passed p now e) (Blocked n at') same = absurd same
    after-alike v u related (Passed p now e) (Passed q now' f) same = record {
      clock = same.1;
      places = related.places;
      entries = λ r. when-both R (r =ᵇ p) (r =ᵇ q) _ _ _ _ (ap (λ x. r =ᵇ x) same.0) (λ _. same.2) (λ _. related.entries r);
    }

  module _ (R : Entry B → Entry C → Type 0) (Fit : Segment → Type 0) (agree : Agreeing R Fit) where
    live_same :
        {e : Entry B} {f : Entry C} (now side : ℕ) (k : Flow) → R e f →
        live_match B now side k e ≡ live_match C now side k f
    unfolding live_match from_opener from_answerer
    live_same now side k r = rw (agree.key r, agree.side r, agree.deadline r)

    vacant-same : {e : Entry B} {f : Entry C} (now : ℕ) → R e f → vacant B now e ≡ vacant C now f
    unfolding vacant
    vacant-same now r = rw (agree.deadline r)

    sender-same : {e : Entry B} {f : Entry C} (side : ℕ) → R e f → sender_of B e side ≡ sender_of C f side
    unfolding sender_of
    sender-same side r = rw (agree.side r)

    module _ (v : View B) (u : View C) (related : Related R v u) (now side : ℕ) (k : Flow) (g : Segment) (fit : Fit g) where
      search-same : rows.search B v now side k ≡ rows.search C u now side k
      search-same =
          first-same _ _ v.places 0 (λ p low high. live_same now side k (related.entries p))
          ∙ ap (first_from (λ p. live_match C now side k (u.entry p)) 0) related.places

      lowest-same : lowest_vacant B v now ≡ lowest_vacant C u now
      lowest-same =
          first-same _ _ v.places 0 (λ p low high. vacant-same now (related.entries p))
          ∙ ap (first_from (λ p. vacant C now (u.entry p)) 0) related.places

      by-verdict-same :
          (w : Verdict) (p : ℕ) (e : Entry B) (f : Entry C) → (w ≡ pass → R e f) →
          Alike R (by_verdict B w (Passed p now e)) (by_verdict C w (Passed p now f))
      by-verdict-same (Ok x) p e f r = (refl, refl, r refl)
      by-verdict-same (Err reason) p e f r = (refl, refl)

      entry-same :
          (p : ℕ) (e : Entry B) (f : Entry C) → R e f → 0 < B.deadline e.connection →
          Alike R (on_entry B e p now side g) (on_entry C f p now side g)
      unfolding on_entry
      entry-same p e f r live =
          let i = sender_of B e side in
          let known = sender_known B e side in
          rw (← sender-same side r, ← agree.verdict i g r live known fit)
          (by-verdict-same (B.verdict e.connection i g) p _ _ (λ passes. agree.passed i g now r live known fit passes))

      unmatched-same : Alike R (unmatched B v now side k g) (unmatched C u now side k g)
      unfolding unmatched
      unmatched-same =
          when-both (Alike R) (is_opening side g) (is_opening side g) _ _ _ _ refl
          (λ opening. rw (← lowest-same) (go opening (lowest_vacant B v now))) (λ _. (refl, refl))
        where
          go : is_opening side g ≡ true → (r : Option ℕ) → Alike R (on_vacant B r now side k g) (on_vacant C r now side k g)
          go opening None = (refl, refl)
          go opening (Some p) = (refl, refl, agree.made now side k g fit opening)

      pub segment-same : Alike R (on_segment B v now side k g) (on_segment C u now side k g)
      unfolding on_segment
      segment-same = rw (← search-same) (go (rows.search B v now side k) refl)
        where
          go : (r : Option ℕ) → rows.search B v now side k ≡ r → Alike R (on_found B r v now side k g) (on_found C r u now side k g)
          go (Some p) found =
              let f = found-live B v now side k g p found in
              entry-same p _ _ (related.entries p) (omega (arith, f.1))
          go None none = unmatched-same

    pub filter_same :
        (v : View B) (u : View C) → Related R v u → (a : Ask) → Fit a.segment → Alike R (filter B v a) (filter C u a)
    filter_same v u related a fit =
        subst (λ (c : ℕ). Alike R (filter B v a) (on_segment C u (max a.clock c) a.side a.key a.segment)) related.clock
        (segment-same v u related (clock_used B v a) a.side a.key a.segment fit)
