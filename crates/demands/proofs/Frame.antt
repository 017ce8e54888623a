-- What a pass writes into a table, and what it leaves alone.
use Prim.Native.Nat.{ℕ, ◌+◌, ◌^◌, ◌≤◌, ◌<◌}
use mathlib.Core.Path.{◌≡◌, ◌∙◌}
use mathlib.Core.Logic.{◌⊎◌, ⊎_elim}
use mathlib.Core.List.{List}
use native.Mathlib.Omega.{arith}
use lib.ListN.{length, get_or}
use Rattle.choice.proofs.Tests.{lt-or-ge}
use Rattle.octets.specs.BigEndian.{octets_of}
use Rattle.octets.specs.Overwrite.{overwrite}
use Rattle.octets.proofs.Overwrite.{length-overwrite, get_or-overwrite-before, get_or-overwrite-after}
use Rattle.octets.proofs.Agree.{Agree, overwrite-agree}
use Rattle.octets.proofs.BigEndian.{length-octets_of, big_endian-agree, big_endian-overwrite}
use Rattle.address.specs.declared.Version.{Version}
use Rattle.entry.specs.Layout.{header_size, entry_size, place_at, entry_at, entry_bytes}
use Rattle.entry.specs.Storable.{Storable}
use Rattle.entry.specs.declared.Entry.{Entry}
use Rattle.entry.proofs.Places.{header-first, place_inside}
use Rattle.entry.proofs.Sizes.{length-entry_bytes}
use Rattle.entry.proofs.Agree.{entry_at-agree}
use Rattle.entry.proofs.RoundTrip.{load_stored}
use Rattle.table.specs.Table.{header_clock}
use Rattle.filter.specs.Call.{places_in, with_entry}
use Rattle.filter.proofs.Rows.{place-in-table}

module _ (v : Version) where
  module _ (t : List ℕ) (p now : ℕ) (e : Entry) (inside : p < places_in v t) where
    -- with the clock written, and then the entry
    abbrev clocked : List ℕ
    clocked = overwrite t 0 (octets_of 8 now)

    abbrev after : List ℕ
    after = with_entry v t p now e

    -- the entry lies in the table
    in_table : place_at v p + entry_size v ≤ length t
    in_table = place-in-table v (length t) p inside

    header : header_size ≤ place_at v p
    header = header-first v p

    clock_fits : 0 + length (octets_of 8 now) ≤ length t
    clock_fits = rw (length-octets_of 8 now) (omega (arith, in_table, header))

    length-clocked : length clocked ≡ length t
    length-clocked = length-overwrite t 0 (octets_of 8 now) clock_fits

    entry-fits : place_at v p + length (entry_bytes v e) ≤ length clocked
    entry-fits = rw (length-entry_bytes v e, length-clocked) in_table

    pub length-after : length (with_entry v t p now e) ≡ length t
    length-after = length-overwrite clocked (place_at v p) (entry_bytes v e) entry-fits ∙ length-clocked

    pub places_in-after : places_in v (with_entry v t p now e) ≡ places_in v t
    places_in-after = rw length-after

    before-entry : (k : ℕ) → k < place_at v p → get_or after k 0 ≡ get_or clocked k 0
    before-entry k before = get_or-overwrite-before clocked (place_at v p) (entry_bytes v e) entry-fits k before

    past-entry : (k : ℕ) → place_at v p + entry_size v ≤ k → get_or after k 0 ≡ get_or clocked k 0
    past-entry k past = get_or-overwrite-after clocked (place_at v p) (entry_bytes v e) entry-fits k (rw (length-entry_bytes v e) past)

    past-clock : (k : ℕ) → 8 ≤ k → get_or clocked k 0 ≡ get_or t k 0
    past-clock k past = get_or-overwrite-after t 0 (octets_of 8 now) clock_fits k (rw (length-octets_of 8 now) (omega arith))

    -- all bytes but the clock's and the entry's are as they were
    pub byte-elsewhere :
        (k : ℕ) → 8 ≤ k → (k < place_at v p) ⊎ (place_at v p + entry_size v ≤ k) →
        get_or (with_entry v t p now e) k 0 ≡ get_or t k 0
    byte-elsewhere k past off = ⊎_elim (before-entry k) (past-entry k) off ∙ past-clock k past

    pub clock-after : now < 2 ^ 64 → header_clock (with_entry v t p now e) ≡ now
    unfolding header_clock
    clock-after small =
        big_endian-agree after 0 clocked 0 8 (λ i h. before-entry (0 + i) (omega (arith, header)))
        ∙ big_endian-overwrite 8 now t 0 (omega (arith, in_table, header)) small

    -- the header's rest
    pub header-after : Agree (with_entry v t p now e) 8 t 8 56
    header-after i h = before-entry (8 + i) (omega (arith, header)) ∙ past-clock (8 + i) (omega arith)

    -- what was written at the place
    pub place_same : Agree (with_entry v t p now e) (place_at v p) (entry_bytes v e) 0 (entry_size v)
    place_same = overwrite-agree clocked (place_at v p) (entry_bytes v e) (entry_size v) (length-entry_bytes v e) (rw length-clocked in_table)

    pub entry-same : Storable v e → entry_at v (with_entry v t p now e) (place_at v p) ≡ e
    entry-same storable = load_stored v clocked (place_at v p) e (rw length-clocked in_table) storable

    -- every other place is as it was
    pub place_other : (q : ℕ) → (q ≡ p → ⊥) → Agree (with_entry v t p now e) (place_at v q) t (place_at v q) (entry_size v)
    place_other q differs i h = ⊎_elim below above (lt-or-ge q p) ∙ past-clock (place_at v q + i) (omega (arith, header-first v q))
      where
        below : q < p → get_or after (place_at v q + i) 0 ≡ get_or clocked (place_at v q + i) 0
        below less = before-entry (place_at v q + i) (omega (arith, place_inside v q p less))

        above : p ≤ q → get_or after (place_at v q + i) 0 ≡ get_or clocked (place_at v q + i) 0
        above least =
            ⊎_elim (λ more. past-entry (place_at v q + i) (omega (arith, place_inside v p q more))) (λ most. absurd (differs (omega arith)))
            (lt-or-ge p q)

    pub entry_other : (q : ℕ) → (q ≡ p → ⊥) → entry_at v (with_entry v t p now e) (place_at v q) ≡ entry_at v t (place_at v q)
    entry_other q differs = entry_at-agree v after (place_at v q) t (place_at v q) (place_other q differs)
