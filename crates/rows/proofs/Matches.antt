-- A match, by the facts that its tests ask for: an entry's end, and a deadline above the clock used.
use Prim.Native.Nat.{ℕ, ◌-◌, ◌<◌, ◌≤◌}
use mathlib.Core.Path.{◌≡◌, sym, ap, ◌∙◌}
use mathlib.Core.Logic.{◌⊎◌, inl, inr, ⊎_elim}
use mathlib.Core.Bool.{Bool, true, false, ◌&&◌, ◌||◌, and-false, or-true}
use native.Mathlib.Omega.{arith}
use borrow.Author.Tests.{lt-ltb, le-ltb, eq-eqb, eqb-true}
use Rattle.choice.specs.Choice.{◌<ᵇ◌, ◌=ᵇ◌}
use Rattle.choice.proofs.Tests.{&&-true, ||-true, true-or-false, lt-or-ge, false-true}
use Rattle.address.specs.Flows.{same_flow, reversed}
use Rattle.address.specs.declared.Flow.{Flow}
use Rattle.address.proofs.Flows.{same_refl, same_true}
use Rattle.rows.specs.Rows.{Bodies, Entry, from_opener, from_answerer, live_match}

both-same : (s r : ℕ) (j k : Flow) → (s =ᵇ r) && same_flow j k ≡ true → (s ≡ r) × (j ≡ k)
both-same s r j k m = let h = &&-true (s =ᵇ r) (same_flow j k) m in (eqb-true s r h.0, same_true j k h.1)

same-both : (s r : ℕ) (j k : Flow) → (s ≡ r) × (j ≡ k) → (s =ᵇ r) && same_flow j k ≡ true
same-both s r j k (p, q) = rw (eq-eqb s r p, q) (same_refl k)

module _ (B : Bodies) where
  -- side s, addresses and ports k are the opener's way round; or the side is the other one and they are reversed
  abbrev pub EndOf : Entry B → ℕ → Flow → Type 0
  EndOf e s k = ((s ≡ B.side e.connection) × (k ≡ e.key)) ⊎ ((s ≡ 1 - B.side e.connection) × (reversed k ≡ e.key))

  abbrev pub matches : Entry B → ℕ → Flow → Bool
  matches e s k = from_opener B e s k || from_answerer B e s k

  pub matches-end : (e : Entry B) (s : ℕ) (k : Flow) → matches e s k ≡ true → EndOf e s k
  unfolding from_opener from_answerer
  matches-end e s k m =
      ⊎_elim (λ h. inl (both-same _ _ _ _ h)) (λ h. inr (both-same _ _ _ _ h)) (||-true ((s =ᵇ B.side e.connection) && same_flow k e.key) _ m)

  pub end-matches : (e : Entry B) (s : ℕ) (k : Flow) → EndOf e s k → matches e s k ≡ true
  unfolding from_opener from_answerer
  end-matches e s k (inl h) = rw (same-both s (B.side e.connection) k e.key h)
  end-matches e s k (inr h) = rw (same-both s (1 - B.side e.connection) (reversed k) e.key h, or-true)

  -- where the far end is an end of the entry, so is this one
  pub far-end : (e : Entry B) (s : ℕ) (k : Flow) → s ≤ 1 → B.side e.connection ≤ 1 → EndOf e (1 - s) (reversed k) → EndOf e s k
  far-end e s k h h' (inl (p, q)) = inr (omega arith, q)
  far-end e s k h h' (inr (p, q)) = inl (omega arith, q)

  pub same_end : (e : Entry B) {s r : ℕ} {j k : Flow} → s ≡ r → j ≡ k → EndOf e s j → EndOf e r k
  same_end e p q (inl (h, h')) = inl (sym p ∙ h, sym q ∙ h')
  same_end e p q (inr (h, h')) = inr (sym p ∙ h, ap reversed (sym q) ∙ h')

  -- an entry whose opener is an end of another has that one's opener for an end
  pub mutual-end :
      (e f : Entry B) → B.side e.connection ≤ 1 → EndOf e (B.side f.connection) f.key →
      EndOf f (B.side e.connection) e.key
  mutual-end e f known (inl (p, q)) = inl (sym p, sym q)
  mutual-end e f known (inr (p, q)) = inr (omega arith, ap reversed (sym q))

  -- a live entry that matches is a live match, and an expired one is not
  module _ (now s : ℕ) (k : Flow) (e : Entry B) where
    pub live-match : now < B.deadline e.connection → matches e s k ≡ true → live_match B now s k e ≡ true
    unfolding live_match
    live-match h m = rw (lt-ltb now (B.deadline e.connection) h, m)

    pub unfound-expired : live_match B now s k e ≡ false → matches e s k ≡ true → B.deadline e.connection ≤ now
    unfound-expired none m = ⊎_elim (λ h. false-true (sym none ∙ live-match h m)) (λ h. h) (lt-or-ge now (B.deadline e.connection))

    pub expired-unfound : (matches e s k ≡ true → B.deadline e.connection ≤ now) → live_match B now s k e ≡ false
    unfolding live_match
    expired-unfound expired =
        ⊎_elim (λ m. rw (le-ltb now (B.deadline e.connection) (expired m))) (λ n. rw n (and-false (now <ᵇ B.deadline e.connection)))
        (true-or-false (matches e s k))
