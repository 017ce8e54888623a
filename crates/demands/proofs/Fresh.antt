-- A fresh table is sound, its places are free, and of IPv4 it is all zeros.
use Prim.Native.Nat.{ℕ, ◌+◌, ◌≤◌, ◌<◌}
use mathlib.Core.Path.{◌≡◌, sym, ap, ◌∙◌}
use mathlib.Core.Logic.{inl, ⊎_elim}
use mathlib.Core.List.{List, [], ◌∷◌}
use native.Mathlib.Omega.{arith}
use lib.ListN.{length, get_or, replicate, length-replicate, get_or-replicate, get_or-eq_default}
use lib.Seq.{ext_get_or}
use Rattle.choice.proofs.Tests.{lt-or-ge}
use Rattle.octets.specs.Octets.{Octets}
use Rattle.octets.specs.BigEndian.{big_endian}
use Rattle.octets.specs.Digits.{number}
use Rattle.octets.proofs.Overwrite.{length-overwrite, get_or-overwrite, get_or-overwrite-before, get_or-overwrite-after}
use Rattle.octets.proofs.Octets.{bytes-[], bytes-∷, octets-overwrite}
use Rattle.octets.proofs.BigEndian.{big_endian-agree}
use Rattle.address.specs.declared.Version.{Version}
use Rattle.address.specs.declared.Version.TheVariants.{V4}
use Rattle.rows.specs.Connections.{connections}
use Rattle.entry.specs.Layout.{entry_size, place_at}
use Rattle.entry.specs.Viewed.{viewed}
use Rattle.entry.proofs.Places.{header-first}
use Rattle.table.specs.Table.{clock_at, header_zeros_at, version_byte_at, last_at, header_clock, version_byte}
use Rattle.table.proofs.Words.{version_byte≤1}
use Rattle.table.proofs.Zeros.{Zeros}
use Rattle.table.proofs.Facts.{SoundFacts, facts-table}
use Rattle.filter.specs.Call.{places_in, table_of}
use Rattle.filter.proofs.Rows.{places-made, length-made}
use Rattle.filter.proofs.Free.{zeros-free}
use Rattle.honest.specs.Demand2.{fresh}
use Rattle.demands.specs.Demands.{fresh_bytes, FreshIsZeros}
use Rattle.demands.specs.Bytes.{SoundBytes}

-- Zeros

abbrev zero_bytes : ℕ → List ℕ
zero_bytes n = replicate n 0

length-zero_bytes : (n : ℕ) → length (zero_bytes n) ≡ n
length-zero_bytes n = length-replicate {A = ℕ} n 0

get_or-zero_bytes : (n i : ℕ) → get_or (zero_bytes n) i 0 ≡ 0
get_or-zero_bytes n i = ⊎_elim within past (lt-or-ge i n)
  where
    within : i < n → get_or (zero_bytes n) i 0 ≡ 0
    within h = get_or-replicate n i 0 0 h

    past : n ≤ i → get_or (zero_bytes n) i 0 ≡ 0
    past h = get_or-eq_default (zero_bytes n) 0 (rw (length-zero_bytes n) h)

-- A table with n places: zeros but for the byte of its IP version

module _ (v : Version) (n : ℕ) where
  abbrev zeros : List ℕ
  zeros = zero_bytes (place_at v n)

  abbrev version : List ℕ
  version = version_byte v ∷ []

  abbrev made : List ℕ
  made = fresh_bytes v n

  version-fits : version_byte_at + length version ≤ length zeros
  version-fits = rw (length-zero_bytes (place_at v n)) (omega (arith, header-first v n))

  length-made-bytes : length made ≡ place_at v n
  length-made-bytes = length-overwrite zeros version_byte_at version version-fits ∙ length-zero_bytes (place_at v n)

  zero-before : (i : ℕ) → i < version_byte_at → get_or made i 0 ≡ 0
  zero-before i h = get_or-overwrite-before zeros version_byte_at version version-fits i h ∙ get_or-zero_bytes (place_at v n) i

  zero-after : (i : ℕ) → last_at ≤ i → get_or made i 0 ≡ 0
  zero-after i h = get_or-overwrite-after zeros version_byte_at version version-fits i h ∙ get_or-zero_bytes (place_at v n) i

  marked : get_or made version_byte_at 0 ≡ version_byte v
  marked = get_or-overwrite zeros version_byte_at version version-fits 0 (omega arith)

  made-octets : Octets made
  made-octets =
      octets-overwrite zeros version_byte_at version (λ i. rw (get_or-zero_bytes (place_at v n) i) (omega arith))
      (bytes-∷ (omega (arith, version_byte≤1 v)) bytes-[]).small

  place-zeros : (p : ℕ) → Zeros made (place_at v p) (entry_size v)
  place-zeros p i h = zero-after (place_at v p + i) (omega (arith, header-first v p))

  zero-clock : header_clock made ≡ 0
  unfolding header_clock big_endian number
  zero-clock = big_endian-agree made clock_at [] 0 8 (λ i h. zero-before (clock_at + i) (omega arith))

  fresh-places : places_in v made ≡ n
  fresh-places = rw length-made-bytes (places-made v n)

  fresh-facts : (k : ℕ) → SoundFacts v made k
  fresh-facts k = record {
    clock = rw zero-clock (omega arith);
    header = λ i h. zero-before (header_zeros_at + i) (omega arith);
    version = marked;
    header-end = zero-after last_at (omega arith);
    places = λ p h. inl (place-zeros p);
  }

  pub fresh-bytes-sound : 1 ≤ n → n ≤ 512 → SoundBytes v (fresh_bytes v n)
  fresh-bytes-sound some most = record {
    octets = made-octets;
    legal = rw length-made-bytes (length-made v n some most);
    sound = facts-table v made _ (fresh-facts _);
  }

  pub fresh-bytes-view : table_of v (fresh_bytes v n) ≡ fresh connections n
  fresh-bytes-view = λ i. record {
    clock = zero-clock i;
    places = fresh-places i;
    entry = λ p. viewed (zeros-free v made (place_at v p) (place-zeros p) i);
  }

-- Of IPv4 that byte is 0 too

fresh-zero : (n i : ℕ) → get_or (fresh_bytes V4 n) i 0 ≡ 0
fresh-zero n i =
    ⊎_elim (zero-before V4 n i) (λ least. ⊎_elim (λ after. zero-after V4 n i (omega arith)) (λ most. there (omega arith)) (lt-or-ge version_byte_at i))
    (lt-or-ge i version_byte_at)
  where
    there : i ≡ version_byte_at → get_or (fresh_bytes V4 n) i 0 ≡ 0
    there is = ap (λ (k : ℕ). get_or (fresh_bytes V4 n) k 0) is ∙ marked V4 n

pub fresh-is-zeros : FreshIsZeros
fresh-is-zeros n =
    ext_get_or 0 (fresh_bytes V4 n) (zero_bytes (place_at V4 n)) (length-made-bytes V4 n ∙ sym (length-zero_bytes (place_at V4 n)))
    (λ i h. fresh-zero n i ∙ sym (get_or-zero_bytes (place_at V4 n) i))
