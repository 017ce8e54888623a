-- The table that the bytes are, after a pass.
use Prim.Native.Nat.{ℕ, ◌^◌, ◌<◌}
use mathlib.Core.Path.{◌≡◌, ap, ◌∙◌}
use mathlib.Core.List.{List}
use native.Mathlib.Omega.{arith}
use borrow.Author.Tests.{eqb-true, eqb-false}
use Rattle.choice.specs.Choice.{when◌then◌else◌, ◌=ᵇ◌}
use Rattle.choice.proofs.Choice.{when-cases}
use Rattle.address.specs.declared.Version.{Version}
use Rattle.rows.specs.Rows as rows
use Rattle.rows.specs.Rows.{Passed}
use Rattle.rows.specs.Connections.{connections}
use Rattle.entry.specs.Layout.{place_at, entry_at}
use Rattle.entry.specs.Storable.{Storable}
use Rattle.entry.specs.Viewed.{viewed, stored}
use Rattle.filter.specs.Call.{places_in, table_of, table_after}
use Rattle.demands.proofs.Frame.{places_in-after, clock-after, entry-same, entry_other}

module _
    (v : Version) (t : List ℕ) (p now : ℕ) (e : rows.Entry connections) (inside : p < places_in v t) (small : now < 2 ^ 48)
    (storable : Storable v (stored e)) where
  abbrev after : List ℕ
  after = table_after v t (Passed p now e)

  entry-after : (q : ℕ) → viewed (entry_at v after (place_at v q)) ≡ (when q =ᵇ p then e else viewed (entry_at v t (place_at v q)))
  entry-after q =
      when-cases (λ x. viewed (entry_at v after (place_at v q)) ≡ x) (q =ᵇ p) e (viewed (entry_at v t (place_at v q)))
      (λ same. ap (λ r. viewed (entry_at v after (place_at v r))) (eqb-true q p same) ∙ ap viewed (entry-same v t p now (stored e) inside storable))
      (λ differs. ap viewed (entry_other v t p now (stored e) inside q (eqb-false q p differs)))

  -- a pass on bytes is the pass on their view
  pub view-after : table_of v (table_after v t (Passed p now e)) ≡ rows.after connections (table_of v t) (Passed p now e)
  view-after =
      let clock = clock-after v t p now (stored e) inside (omega arith) in
      let places = places_in-after v t p now (stored e) inside in
      λ i. record { clock = clock i; places = places i; entry = λ q. entry-after q i }
