-- Sound bytes are those of the table that they are.
use Prim.Native.Nat.{ℕ, zero, suc, ◌+◌, ◌≤◌, ◌<◌}
use mathlib.Core.Path.{◌≡◌, sym, ap, ◌∙◌}
use mathlib.Core.Bool.{true}
use mathlib.Core.List.{List, ◌∷◌, ◌++◌}
use native.Mathlib.Omega.{arith}
use lib.ListN.{length, take, drop, get_or, replicate, length-drop, length-replicate, get_or-replicate, take-append-drop}
use lib.Seq.{drop-cons, drop-length, drop-drop, get_or-take, get_or-drop, length-take-le, ext_get_or}
use Rattle.choice.proofs.Tests.{&&-true}
use Rattle.octets.specs.BigEndian.{octets_of}
use Rattle.octets.proofs.BigEndian.{octets_of-big_endian}
use Rattle.address.specs.declared.Version.{Version}
use Rattle.entry.specs.Layout.{header_size, entry_size, place_at}
use Rattle.entry.proofs.Places.{first-place, next_place, place_inside, header-first}
use Rattle.table.specs.Table.{clock_at, header_zeros_at, header_zeros, version_byte_at, last_at, version_byte, header_clock, sound_at, sound_header, sound_table}
use Rattle.table.proofs.Places.{each-of-all}
use Rattle.table.proofs.Facts.{table-facts}
use Rattle.table.proofs.RoundTrip.{sound-re-encodes}
use Rattle.table.proofs.Zeros.{Zeros}
use Rattle.filter.specs.Call.{places_in, table_of}
use Rattle.filter.proofs.Rows.{length_whole}
use Rattle.demands.specs.Bytes.{SoundBytes}
use Rattle.demands.specs.Encoded.{entries_bytes, table_bytes}

-- a part and what follows it
next-part : (n at : ℕ) (t : List ℕ) → take n (drop at t) ++ drop (at + n) t ≡ drop at t
next-part n at t = ap (λ r. take n (drop at t) ++ r) (sym (drop-drop n at t)) ∙ take-append-drop n (drop at t)

-- zeros as a part
zeros-part : (n at : ℕ) (t : List ℕ) → at + n ≤ length t → Zeros t at n → replicate n 0 ≡ take n (drop at t)
zeros-part n at t fits zeros =
    ext_get_or 0 _ _ (length-replicate {A = ℕ} n 0 ∙ sym (length-take-le n (drop at t) (rw (length-drop at t) (omega arith))))
    (λ i h. let inside : i < n = rw (length-replicate {A = ℕ} n 0) at h in
    get_or-replicate n i 0 0 inside ∙ sym (get_or-take n (drop at t) i 0 inside ∙ get_or-drop at t i 0 ∙ zeros i inside))

octet-part : (at : ℕ) (t : List ℕ) → at < length t → get_or t at 0 ∷ drop (suc at) t ≡ drop at t
octet-part at t inside = sym (drop-cons t at 0 inside)

sound-place : (v : Version) (t : List ℕ) (n : ℕ) → sound_table v t n ≡ true → (p : ℕ) → p < n → sound_at v t p ≡ true
unfolding sound_table
sound-place v t n sound p inside = each-of-all (sound_at v t) n 0 (&&-true (sound_header v t) _ sound).1 p (omega arith) (omega arith)

module _ (v : Version) (t : List ℕ) (s : SoundBytes v t) where
  size : length t ≡ place_at v (places_in v t)
  size = length_whole v (length t) s.legal

  header-inside : header_size ≤ length t
  header-inside = omega (arith, size, header-first v (places_in v t))

  entries-part : (k i : ℕ) → i + k ≡ places_in v t → entries_bytes v (table_of v t) i k ≡ drop (place_at v i) t
  unfolding entries_bytes
  entries-part zero i all =
      let end : place_at v i ≡ length t = ap (place_at v) (omega arith) ∙ sym size in
      sym (ap (λ at. drop at t) end ∙ drop-length t)
  entries-part (suc k) i all =
      let fits : place_at v i + entry_size v ≤ length t = omega (arith, size, place_inside v i (places_in v t) (omega arith)) in
      let entry = sound-re-encodes v t i s.octets fits (sound-place v t (places_in v t) s.sound i (omega arith)) in
      let rest = entries-part k (i + 1) (omega arith) ∙ ap (λ at. drop at t) (next_place v i) in
      (λ j. entry j ++ rest j)
      ∙ next-part (entry_size v) (place_at v i) t

  clock-part : octets_of 8 (header_clock t) ≡ take 8 (drop clock_at t)
  unfolding header_clock
  clock-part = octets_of-big_endian 8 t clock_at (omega (arith, header-inside)) s.octets

  -- the byte of the IP version, the last byte of the header, and the entries
  version-part : version_byte v ∷ 0 ∷ entries_bytes v (table_of v t) 0 (places_in v t) ≡ drop version_byte_at t
  version-part =
      let f = table-facts v t (places_in v t) s.sound in
      let entries = entries-part (places_in v t) 0 (omega arith) ∙ ap (λ at. drop at t) (first-place v) in
      (λ i. sym f.version i ∷ sym f.header-end i ∷ entries i)
      ∙ ap (λ l. get_or t version_byte_at 0 ∷ l) (octet-part last_at t (omega (arith, header-inside)))
      ∙ octet-part version_byte_at t (omega (arith, header-inside))

  -- the table's bytes are those of the table that they are
  pub sound-bytes : t ≡ table_bytes v (table_of v t)
  sound-bytes =
      let f = table-facts v t (places_in v t) s.sound in
      let zeros = zeros-part header_zeros header_zeros_at t (omega (arith, header-inside)) f.header in
      sym (next-part 8 clock_at t)
      ∙ (λ i. sym clock-part i ++ sym (next-part header_zeros header_zeros_at t) i)
      ∙ (λ i. octets_of 8 (header_clock t) ++ (sym zeros i ++ sym version-part i))
