-- Laws of a match: addresses and ports decide, or the side; and a match is live if it is not expired.
use Prim.Native.Nat.{ℕ, ◌-◌}
use mathlib.Core.Path.{◌≡◌, sym, ap, ◌∙◌}
use mathlib.Core.Bool.{Bool, not, ◌&&◌, ◌||◌, and_comm}
use mathlib.Core.Logic.{⊎_elim}
use mathlib.Core.List.{List}
use borrow.Author.Tests.{lt-ltb, le-ltb, le-leb, lt-leb}
use Rattle.choice.specs.Choice.{◌=ᵇ◌, ◌<ᵇ◌, ◌≤ᵇ◌}
use Rattle.choice.proofs.Tests.{lt-or-ge}
use Rattle.address.specs.Flows.{same_flow, reversed}
use Rattle.address.specs.declared.Version.{Version}
use Rattle.address.specs.declared.Flow.{Flow}
use Rattle.rows.specs.Rows as rows
use Rattle.rows.specs.Rows.{from_opener, from_answerer, live_match, vacant}
use Rattle.rows.specs.Connections.{connections}
use Rattle.entry.specs.Layout.{place_at, entry_at}
use Rattle.entry.specs.Viewed.{viewed}
use Rattle.entry.specs.declared.Entry.{Entry}

less-if-not-most : (a b : ℕ) → (a <ᵇ b) ≡ not (b ≤ᵇ a)
less-if-not-most a b = ⊎_elim (λ h. rw (lt-ltb a b h, lt-leb b a h)) (λ h. rw (le-ltb a b h, le-leb b a h)) (lt-or-ge a b)

module _ (e : Entry) (side : ℕ) (k : Flow) where
  pub opener_by_key : from_opener connections (viewed e) side k ≡ same_flow k e.key && (side =ᵇ e.connection.side)
  unfolding from_opener
  opener_by_key = and_comm (side =ᵇ e.connection.side) (same_flow k e.key)

  pub answerer_by_key : from_answerer connections (viewed e) side k ≡ same_flow (reversed k) e.key && (side =ᵇ 1 - e.connection.side)
  unfolding from_answerer
  answerer_by_key = and_comm (side =ᵇ 1 - e.connection.side) (same_flow (reversed k) e.key)

  -- a match is live if it is not expired
  pub live_if_not_vacant :
      (clock : ℕ) →
      live_match connections clock side k (viewed e) ≡
      not (vacant connections clock (viewed e)) && (from_opener connections (viewed e) side k || from_answerer connections (viewed e) side k)
  unfolding live_match vacant
  live_if_not_vacant clock = let matches = from_opener connections (viewed e) side k || from_answerer connections (viewed e) side k in
      ap (λ (live : Bool). live && matches) (less-if-not-most clock e.connection.deadline)

-- a test of the entry at a place, by the offset where the entry begins
pub tested_at :
    (test : rows.Entry connections → Bool) (v : Version) (t : List ℕ) (at p : ℕ) (r : Bool) → at ≡ place_at v p →
    r ≡ test (viewed (entry_at v t at)) → test (viewed (entry_at v t (place_at v p))) ≡ r
tested_at test v t at p r there e = sym (e ∙ ap (λ (k : ℕ). test (viewed (entry_at v t k))) there)
