-- The machine on bytes keeps to rows 11 to 15 and 0 on the table that the bytes are.
use Prim.Native.Nat.{ℕ, ◌^◌, ◌≤◌, ◌<◌}
use mathlib.Core.Path.{◌≡◌, refl, ap}
use mathlib.Core.Logic.{◌⊎◌, inl, inr, ⊎_elim}
use mathlib.Core.Bool.{true}
use mathlib.Core.List.{List}
use native.Mathlib.Omega.{arith}
use Rattle.address.specs.Address.{IsFlow}
use Rattle.address.specs.declared.Version.{Version}
use Rattle.address.specs.declared.Version.TheVariants.{V4}
use Rattle.packet.specs.Read.{PacketRead, read_ipv4}
use Rattle.packet.specs.Reader.{ReaderOf}
use Rattle.packet.proofs.Readable.{ipv4-reader}
use Rattle.connection.specs.Sound.{sound_connection}
use Rattle.rows.specs.Rows.{Ask, Entry, Outcome, Blocked, Passed, clock_used, filter, after}
use Rattle.rows.specs.Connections.{connections}
use Rattle.history.specs.History.{Placeable}
use Rattle.history.proofs.Places.{readable-placeable}
use Rattle.entry.specs.Storable.{Storable}
use Rattle.entry.specs.Viewed.{stored}
use Rattle.entry.proofs.Octets.{storable-entry_at}
use Rattle.table.specs.Table.{header_clock}
use Rattle.filter.specs.Call.{table_of, reply_of, table_after}
use Rattle.filter.proofs.Free.{free_entry, storable-free}
use Rattle.filter.proofs.Rows.{sound-table-clock}
use Rattle.honest.specs.Machine.{Reading, refused, asks, apart, KeepsTo}
use Rattle.honest.proofs.SoundKept.{Left, LeftBy, filter-left}
use Rattle.demands.specs.Bytes.{BytesCall, SoundBytes, reading_of, called, bytes_machine, ipv4_machine}
use Rattle.demands.proofs.View.{view-after}
use Rattle.demands.proofs.Sound.{sound_view, storable-view}
use Rattle.demands.proofs.SoundAfter.{sound-after}
use Rattle.demands.proofs.Storable.{storable-entry}
use Rattle.demands.proofs.Reading.{Brought, never-apart, asks-brought, refused-holds, asks-outcome, refused-outcome}

-- every answer but a pass changes no byte
blocked_keeps : (v : Version) (t : List ℕ) (o : Outcome connections) → ((reply_of o).answer ≡ 0 → ⊥) → table_after v t o ≡ t
blocked_keeps v t (Blocked n place) blocked = refl
blocked_keeps v t (Passed p now e) blocked = absurd (blocked refl)

-- What a call that a packet brings leaves of a sound table

module _ (v : Version) (t : List ℕ) (a : Ask) (s : SoundBytes v t) (brought : Brought v a) where
  used-small : clock_used connections (table_of v t) a < 2 ^ 48
  used-small = omega (arith, sound-table-clock v t _ s.sound, brought.clock)

  -- the entry that a pass leaves is free or sound, and its numbers fit their bytes
  module _ (p now : ℕ) (e : Entry connections) (left : Left (table_of v t) a p now e) where
    now-small : now < 2 ^ 48
    now-small = omega (arith, left.clock, used-small)

    entry-sound : (stored e ≡ free_entry) ⊎ (sound_connection now e.connection ≡ true)
    entry-sound = ⊎_elim (λ free. inl (ap stored free)) (λ sound. inr sound) left.sound.sound

    entry-storable : Storable v (stored e)
    entry-storable =
        let fits = left.key (IsFlow v) (storable-free v).key brought.key (storable-entry_at v t _ s.octets).key in
        ⊎_elim (λ free. rw free (storable-free v)) (λ sound. storable-entry v now (stored e) sound now-small left.sound.two-ended fits) entry-sound

  left-view : (o : Outcome connections) → LeftBy (table_of v t) a o → table_of v (table_after v t o) ≡ after connections (table_of v t) o
  left-view (Blocked n place) left = refl
  left-view (Passed p now e) left = view-after v t p now e left.inside (now-small p now e left) (entry-storable p now e left)

  left-sound : (o : Outcome connections) → LeftBy (table_of v t) a o → SoundBytes v (table_after v t o)
  left-sound (Blocked n place) left = s
  left-sound (Passed p now e) left =
      let later : header_clock t ≤ now = omega (arith, left.clock) in
      sound-after v t p now (stored e) s left.inside (now-small p now e left) later (entry-storable p now e left) (entry-sound p now e left)

  -- the call's own outcome
  abbrev outcome : Outcome connections
  outcome = filter connections (table_of v t) a

  left_by : LeftBy (table_of v t) a outcome
  left_by =
      filter-left (table_of v t) a (sound_view v t s) (storable-view v t s) brought.side
      (readable-placeable a.segment brought.segment)

  outcome-view : table_of v (table_after v t outcome) ≡ after connections (table_of v t) outcome
  outcome-view = left-view outcome left_by

  outcome-sound : SoundBytes v (table_after v t outcome)
  outcome-sound = left-sound outcome left_by

-- The machine

module _ (v : Version) (read : List ℕ → PacketRead) (reader : ReaderOf v read) where
  asks-placeable : (q : BytesCall) (a : Ask) → reading_of read q ≡ asks a → Placeable a.segment
  asks-placeable q a is = readable-placeable a.segment (asks-brought v read reader q a is).segment

  module _ (t : List ℕ) (q : BytesCall) (a : Ask) (s : SoundBytes v t) (is : reading_of read q ≡ asks a) where
    brought : Brought v a
    brought = asks-brought v read reader q a is

    asks-left : table_of v (table_after v t (called v read t q)) ≡ after connections (table_of v t) (filter connections (table_of v t) a)
    asks-left = rw (asks-outcome v read q t s a is) (outcome-view v t a s brought)

    asks-sound : SoundBytes v (table_after v t (called v read t q))
    asks-sound = rw (asks-outcome v read q t s a is) (outcome-sound v t a s brought)

  sound_kept : (t : List ℕ) (q : BytesCall) → SoundBytes v t → SoundBytes v (table_after v t (called v read t q))
  sound_kept t q s = go (reading_of read q) refl
    where
      go : (r : Reading Ask) → reading_of read q ≡ r → SoundBytes v (table_after v t (called v read t q))
      go (refused n place) is = rw (refused-outcome v read q t s n place is) s
      go (asks a) is = asks-sound t q a s is
      go apart is = absurd (never-apart v read reader q is)

  pub bytes-keep : KeepsTo (bytes_machine v read) (SoundBytes v)
  bytes-keep = record {
    refusal_answered = λ t q n place s is. ap (λ o. (reply_of o).answer) (refused-outcome v read q t s n place is);
    refusal_placed = λ t q n place s is. ap (λ o. (reply_of o).place) (refused-outcome v read q t s n place is);
    refusal_blocks = λ q n place is zero. omega (arith, refused-holds v read reader q n place is);
    answer_by_rows = λ t q a s is. ap (λ o. (reply_of o).answer) (asks-outcome v read q t s a is);
    place_by_rows = λ t q a s is. ap (λ o. (reply_of o).place) (asks-outcome v read q t s a is);
    view_by_rows = asks-left;
    well_formed = asks-placeable;
    blocked_keeps = λ t q blocked. ap (table_of v) (blocked_keeps v t (called v read t q) blocked);
    apart_keeps = λ t q s is. absurd (never-apart v read reader q is);
    numbers_differ = λ p r e. e;
    sound_view = sound_view v;
    sound_kept = sound_kept;
  }

pub ipv4-keeps : KeepsTo ipv4_machine (SoundBytes V4)
ipv4-keeps = bytes-keep V4 read_ipv4 ipv4-reader
