-- A pass leaves sound bytes sound.
use Prim.Native.Nat.{ℕ, ◌+◌, ◌^◌, ◌≤◌, ◌<◌}
use mathlib.Core.Path.{◌≡◌, ap, ◌∙◌}
use mathlib.Core.Logic.{◌⊎◌, inl, inr}
use mathlib.Core.Bool.{true, false}
use mathlib.Core.List.{List}
use native.Mathlib.Omega.{arith}
use borrow.Author.Tests.{eqb-true, eqb-false}
use Rattle.choice.specs.Choice.{◌=ᵇ◌}
use Rattle.choice.proofs.Tests.{true-or-false}
use Rattle.octets.specs.Octets.{Octets}
use Rattle.octets.specs.BigEndian.{octets_of}
use Rattle.octets.specs.Overwrite.{overwrite}
use Rattle.octets.proofs.Agree.{Agree}
use Rattle.octets.proofs.Octets.{octets-octets_of, octets-overwrite}
use Rattle.address.specs.declared.Version.{Version}
use Rattle.connection.specs.Sound.{sound_connection}
use Rattle.connection.proofs.Sound.{later-sound}
use Rattle.entry.specs.Layout.{entry_size, place_at, entry_bytes, entry_at}
use Rattle.entry.specs.Storable.{Storable}
use Rattle.entry.specs.declared.Entry.{Entry}
use Rattle.entry.proofs.Agree.{entry_at-agree, zero_bytes-agree}
use Rattle.entry.proofs.Octets.{octets-entry_bytes, zero_bytes-entry_bytes}
use Rattle.table.specs.Table.{header_zeros, header_clock}
use Rattle.table.proofs.Facts.{SoundPlace, SoundFacts, table-facts, facts-table}
use Rattle.filter.specs.Call.{places_in, with_entry}
use Rattle.filter.proofs.Free.{free_entry, free-zeros}
use Rattle.demands.specs.Bytes.{SoundBytes}
use Rattle.demands.proofs.Frame.{length-after, places_in-after, clock-after, header-after, place_same, place_other, entry-same}

module _ (v : Version) where
  -- a place with the same bytes stays sound, since the clock only rises
  place-agree :
      (clock now : ℕ) (l : List ℕ) (at : ℕ) (m : List ℕ) (there : ℕ) → Agree l at m there (entry_size v) → clock ≤ now →
      SoundPlace v clock m there →
      SoundPlace v now l at
  place-agree clock now l at m there same later (inl zeros) = inl (λ i h. same i h ∙ zeros i h)
  place-agree clock now l at m there same later (inr f) =
      inr (record {
        zero-bytes = zero_bytes-agree v l at m there same f.zero-bytes;
        connection = rw (entry_at-agree v l at m there same) (later-sound clock now _ later f.connection);
      })

  -- what stands where an entry was written
  written-sound :
      (now : ℕ) (e : Entry) (t : List ℕ) (at : ℕ) → Agree t at (entry_bytes v e) 0 (entry_size v) → entry_at v t at ≡ e →
      (e ≡ free_entry) ⊎ (sound_connection now e.connection ≡ true) →
      SoundPlace v now t at
  written-sound now e t at same back (inl free) = inl (λ i h. (rw free at same) i h ∙ free-zeros v i h)
  written-sound now e t at same back (inr sound) =
      inr (record {
        zero-bytes = zero_bytes-agree v t at (entry_bytes v e) 0 same (zero_bytes-entry_bytes v e);
        connection = ap (λ (x : Entry). sound_connection now x.connection) back ∙ sound;
      })

  module _
      (t : List ℕ) (p now : ℕ) (e : Entry) (s : SoundBytes v t) (inside : p < places_in v t) (small : now < 2 ^ 48)
      (later : header_clock t ≤ now) (storable : Storable v e) (new : (e ≡ free_entry) ⊎ (sound_connection now e.connection ≡ true)) where
    -- with the clock written, and then the entry
    abbrev clocked : List ℕ
    clocked = overwrite t 0 (octets_of 8 now)

    abbrev after : List ℕ
    after = with_entry v t p now e

    clocked-octets : Octets clocked
    clocked-octets = octets-overwrite t 0 (octets_of 8 now) s.octets (octets-octets_of 8 now)

    octets-after : Octets after
    octets-after = octets-overwrite clocked (place_at v p) (entry_bytes v e) clocked-octets (octets-entry_bytes v e storable)

    facts-before : SoundFacts v t (places_in v t)
    facts-before = table-facts v t (places_in v t) s.sound

    place_after : (q : ℕ) → q < places_in v t → SoundPlace v now after (place_at v q)
    place_after q h = by (true-or-false (q =ᵇ p))
      where
        by : (q =ᵇ p ≡ true) ⊎ (q =ᵇ p ≡ false) → SoundPlace v now after (place_at v q)
        by (inl same) =
            rw (eqb-true q p same)
            (written-sound now e after (place_at v p) (place_same v t p now e inside) (entry-same v t p now e inside storable) new)
        by (inr differs) =
            let other = place_other v t p now e inside q (eqb-false q p differs) in
            place-agree (header_clock t) now after (place_at v q) t (place_at v q) other later (facts-before.places q h)

    facts-after : SoundFacts v after (places_in v after)
    facts-after =
        let clock : header_clock after ≡ now = clock-after v t p now e inside (omega arith) in
        let kept = header-after v t p now e inside in
        record {
          clock = rw clock small;
          header = λ i h. kept i (omega arith) ∙ facts-before.header i h;
          version = kept header_zeros (omega arith) ∙ facts-before.version;
          header-end = kept (header_zeros + 1) (omega arith) ∙ facts-before.header-end;
          places = λ q h. rw clock (place_after q (rw (places_in-after v t p now e inside) at h));
        }

    bytes_after : SoundBytes v after
    bytes_after = record {
      octets = octets-after;
      legal = rw (length-after v t p now e inside) s.legal;
      sound = facts-table v after (places_in v after) facts-after;
    }

  -- a pass that writes a free entry or a sound one leaves the bytes sound
  pub sound-after :
      (t : List ℕ) (p now : ℕ) (e : Entry) → SoundBytes v t → p < places_in v t → now < 2 ^ 48 → header_clock t ≤ now → Storable v e →
      ((e ≡ free_entry) ⊎ (sound_connection now e.connection ≡ true)) →
      SoundBytes v (with_entry v t p now e)
  sound-after t p now e s inside small later storable new = bytes_after t p now e s inside small later storable new
