-- Demands 1 to 3 of the call on bytes, of any IP version by its reader; and of the IPv4 filter.
use Rattle.std.specs.Prelude.{ℕ, ◌+◌, ◌≤◌, ◌<◌, ◌≡◌, ◌⊎◌, List, [], ◌∷◌, length, get_or, replicate}
use Rattle.octets.specs.Overwrite.{overwrite}
use Rattle.address.specs.declared.Version.{Version}
use Rattle.address.specs.declared.Version.TheVariants.{V4}
use Rattle.packet.specs.Read.{PacketRead, read_ipv4}
use Rattle.packet.specs.Reader.{PacketAnswer, BrokenAt, ReaderOf}
use Rattle.rows.specs.Rows.{nowhere}
use Rattle.entry.specs.Layout.{entry_size, place_at}
use Rattle.table.specs.Table.{header_zeros_at, version_byte_at, version_byte}
use Rattle.filter.specs.Call.{Outcome, places_in, outcome_of, reply_of, table_after}
use Rattle.honest.specs.Rules.{Event, Pair}
use Rattle.honest.specs.Honest.{Legal, NeverBlocked, Demand3, Demand3AsWritten}
use Rattle.honest.specs.Histories.{histories, in_numbers}
use Rattle.honest.specs.Demand2.{view_after as histories_after, asked, state_after, MachineFollows}
use Rattle.demands.specs.Bytes.{BytesCall, SoundBytes, bytes_machine}
use Rattle.demands.specs.Encoded.{table_bytes}

module _ (v : Version) where
  -- what is left alone by a pass at a place: all but the header clock and that entry
  abbrev pub Elsewhere : ℕ → ℕ → Type 0
  Elsewhere p i = (header_zeros_at ≤ i) × ((i < place_at v p) ⊎ (place_at v p + entry_size v ≤ i))

  pub record Demand1For (read : List ℕ → PacketRead) (t packet : List ℕ) (o : Outcome) : Type 0 where
    -- a pass gives one of the table's places, 0 to n−1, and changes only the header clock and that entry
    pub passed_place : (reply_of o).answer ≡ 0 → (reply_of o).place < places_in v t
    pub passed_length : (reply_of o).answer ≡ 0 → length (table_after v t o) ≡ length t
    pub passed_elsewhere : (reply_of o).answer ≡ 0 → (i : ℕ) → Elsewhere (reply_of o).place i → get_or (table_after v t o) i 0 ≡ get_or t i 0
    -- every other answer is one of the documents' and changes no byte
    pub blocked_answer : ((reply_of o).answer ≡ 0 → ⊥) → (reply_of o).answer ≤ 16
    pub blocked_keeps : ((reply_of o).answer ≡ 0 → ⊥) → table_after v t o ≡ t
    -- 5 to 10 and 16 give the byte offset at which the packet broke (document 02, items 2 and 5): below the packet's length or, where bytes are
    -- missing, at most it; every other refusal gives place 65,535
    pub broken_place : PacketAnswer (reply_of o).answer → BrokenAt read packet (reply_of o).answer (reply_of o).place
    pub blocked_place : ((reply_of o).answer ≡ 0 → ⊥) → (PacketAnswer (reply_of o).answer → ⊥) → (reply_of o).place ≡ nowhere

  -- a fresh table with n places: zeros but for the byte of its IP version, which is 0 in an IPv4 table
  abbrev pub fresh_bytes : ℕ → List ℕ
  fresh_bytes n = overwrite (replicate (place_at v n) 0) version_byte_at (version_byte v ∷ [])

  module _ (read : List ℕ → PacketRead) where
    -- Demand 1: any bytes, side, clock and table get one of the numbered answers, and only a pass changes the table. Nothing is asked of them
    abbrev pub Demand1OnBytes : Type 0
    Demand1OnBytes = (side clock : ℕ) (t packet : List ℕ) → Demand1For read t packet (outcome_of v side clock t (read packet))

    -- Demand 2: after every list of calls from a fresh table, the table's bytes are those of the histories' numbers modulo 2^32, each
    -- answer and each place of the next call is its refusal's or what the histories on the unwrapped line give, 14, 15 and 0 by all places
    -- on it, and the table is sound
    abbrev pub Demand2OnBytes : Type 0
    Demand2OnBytes =
        (n : ℕ) → 1 ≤ n → n ≤ 512 → (l : List BytesCall) →
        let M = bytes_machine v read in
        (state_after M (fresh_bytes n) l ≡ table_bytes v (in_numbers (histories_after histories n (asked M l))))
        × MachineFollows M (fresh_bytes n) n l
        × SoundBytes v (state_after M (fresh_bytes n) l)

    -- Demand 3: two honest ends are never blocked, from a fresh table; and from every sound one
    abbrev pub Demand3OnBytes : Type 0
    Demand3OnBytes =
        (n : ℕ) → 1 ≤ n → n ≤ 512 → (P : Pair) → P.side ≤ 1 → (L : List (Event BytesCall)) →
        Legal (bytes_machine v read) (fresh_bytes n) P L → NeverBlocked (bytes_machine v read) (fresh_bytes n) L

    abbrev pub Demand3FromSound : Type 0
    Demand3FromSound = Demand3 (bytes_machine v read) (SoundBytes v)

    -- and with resets as document 02, item 6, words them
    abbrev pub Demand3AsWrittenFromSound : Type 0
    Demand3AsWrittenFromSound = Demand3AsWritten (bytes_machine v read) (SoundBytes v)

-- a fresh IPv4 table is all zeros, as document 01 has it
abbrev pub FreshIsZeros : Type 0
FreshIsZeros = (n : ℕ) → fresh_bytes V4 n ≡ replicate (place_at V4 n) 0

-- all three; the other half of demand 2, the round trips of trace lines, is in `trace/specs/RoundTrip`
pub record Demands (v : Version) (read : List ℕ → PacketRead) : Type 0 where
  pub demand1 : Demand1OnBytes v read
  pub demand2 : Demand2OnBytes v read
  pub demand3 : Demand3OnBytes v read
  pub demand3_from_sound : Demand3FromSound v read
  pub demand3_as_written : Demand3AsWrittenFromSound v read

-- whatever the IP version, of a reader that gives what that version's packets have
abbrev pub DemandsOfEveryVersion : Type 0
DemandsOfEveryVersion = (v : Version) (read : List ℕ → PacketRead) → ReaderOf v read → Demands v read

-- the IPv4 filter's
abbrev pub DemandsOfIPv4 : Type 0
DemandsOfIPv4 = Demands V4 read_ipv4
