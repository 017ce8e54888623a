-- Rows 3 and 4: legal lengths and the places of a table, and a sound table's clock.
use Prim.Native.Nat.{ℕ, ◌+◌, ◌*◌, ◌-◌, ◌%◌, ◌^◌, ◌≤◌, ◌<◌}
use mathlib.Core.Path.{◌≡◌, ap, ◌∙◌}
use mathlib.Core.Bool.{true}
use mathlib.Core.List.{List}
use native.Mathlib.Omega.{arith}
use borrow.Author.Tests.{le-leb, eq-eqb, eqb-true}
use Rattle.choice.specs.Choice.{◌=ᵇ◌}
use Rattle.choice.proofs.Tests.{&&-true, between-true}
use Rattle.address.specs.declared.Version.{Version}
use Rattle.address.specs.declared.Version.TheVariants.{V4, V6}
use Rattle.entry.specs.Layout.{header_size, entry_size, place_at}
use Rattle.entry.proofs.Places.{first-place, next_place, header-first}
use Rattle.table.specs.Table.{header_clock, sound_header, sound_table}
use Rattle.table.proofs.Words.{header-clock-under}
use Rattle.filter.specs.Length.{legal_length, places_for, LegalWherePlaces}

pub legal-length-bounds : (v : Version) (n : ℕ) → legal_length v n ≡ true → (place_at v 1 ≤ n) × (n ≤ place_at v 512)
unfolding legal_length
legal-length-bounds v n e = between-true (place_at v 1) (place_at v 512) n (&&-true ((n - header_size) % entry_size v =ᵇ 0) _ e).1

-- a table's places are numbers of the machine
pub place-small : (v : Version) (p : ℕ) → p < 2 ^ 32 → place_at v p < 2 ^ 64
unfolding place_at
place-small V4 p h = omega arith
place-small V6 p h = omega arith

-- what is asked of a place's offset
pub ruleset offsets = (place-small, first-place, header-first)

-- the places of a table lie in it, and are at most 512
pub places-inside : (v : Version) (n : ℕ) → place_at v 1 ≤ n → place_at v (places_for v n) ≤ n
unfolding place_at places_for
places-inside V4 n h = omega arith
places-inside V6 n h = omega arith

pub place-in-table : (v : Version) (n p : ℕ) → p < places_for v n → place_at v p + entry_size v ≤ n
unfolding place_at places_for
place-in-table V4 n p h = omega arith
place-in-table V6 n p h = omega arith

pub inside-places : (v : Version) (n p : ℕ) → place_at v p + entry_size v ≤ n → p < places_for v n
unfolding place_at places_for
inside-places V4 n p h = omega arith
inside-places V6 n p h = omega arith

-- a legal length is that of its places
whole-places : (v : Version) (n : ℕ) → place_at v 1 ≤ n → (n - header_size) % entry_size v ≡ 0 → n ≡ place_at v (places_for v n)
unfolding place_at places_for
whole-places V4 n some whole = omega arith
whole-places V6 n some whole = omega arith

pub length_whole : (v : Version) (n : ℕ) → legal_length v n ≡ true → n ≡ place_at v (places_for v n)
unfolding legal_length
length_whole v n legal =
    whole-places v n (legal-length-bounds v n legal).0 (eqb-true _ _ (&&-true ((n - header_size) % entry_size v =ᵇ 0) _ legal).0)

-- as many as were made
pub places-made : (v : Version) (n : ℕ) → places_for v (place_at v n) ≡ n
unfolding place_at places_for
places-made V4 n = omega arith
places-made V6 n = omega arith

pub length-made : (v : Version) (n : ℕ) → 1 ≤ n → n ≤ 512 → legal_length v (place_at v n) ≡ true
unfolding legal_length place_at
length-made V4 n some most =
    rw (eq-eqb ((64 + 64 * n - 64) % 64) 0 (omega arith), le-leb 128 (64 + 64 * n) (omega arith)) (le-leb (64 + 64 * n) 32832 (omega arith))
length-made V6 n some most =
    rw (eq-eqb ((64 + 96 * n - 64) % 96) 0 (omega arith), le-leb 160 (64 + 96 * n) (omega arith)) (le-leb (64 + 96 * n) 49216 (omega arith))

pub places-most : (v : Version) (n : ℕ) → n ≤ place_at v 512 → places_for v n ≤ 512
unfolding place_at places_for
places-most V4 n h = omega arith
places-most V6 n h = omega arith

pub legal-where-places : LegalWherePlaces
legal-where-places v l = (
  (λ legal.
      let bounds = legal-length-bounds v l legal in
      let some = inside-places v l 0 (omega (arith, next_place v 0, bounds.0)) in
      (omega (arith, some), places-most v l bounds.1, length_whole v l legal)),
  (λ n some most is. ap (legal_length v) is ∙ length-made v n some most),
)

-- a sound table's clock is below 2^48, so that the clock used is
pub sound-table-clock : (v : Version) (t : List ℕ) (n : ℕ) → sound_table v t n ≡ true → header_clock t < 2 ^ 48
unfolding sound_table
sound-table-clock v t n e = header-clock-under v t (&&-true (sound_header v t) _ e).0

-- what a legal length and a sound table give
pub ruleset lengths = (legal-length-bounds, places-inside, header-first, sound-table-clock)
