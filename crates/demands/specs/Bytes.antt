-- The call on bytes as a machine, of any IP version by its reader: a state is a table's bytes, a call side, clock and packet.
use Rattle.std.specs.Prelude.{ℕ, ◌≡◌, true, List, length}
use Rattle.octets.specs.Octets.{Octets}
use Rattle.address.specs.declared.Version.{Version}
use Rattle.address.specs.declared.Version.TheVariants.{V4}
use Rattle.packet.specs.Read.{PacketRead, read_ipv4}
use Rattle.rows.specs.Rows.{Ask}
use Rattle.table.specs.Table.{sound_table}
use Rattle.filter.specs.Length.{legal_length}
use Rattle.filter.specs.Call.{Outcome, places_in, table_of, rows1to4, packet_rows, ask_of, outcome_of, reply_of, table_after}
use Rattle.honest.specs.Machine.{Reading, refused, asks, Machine}

pub record BytesCall : Type 0 where
  pub side : ℕ
  pub clock : ℕ
  pub packet : List ℕ
  pub octets : Octets packet

-- a table that answers 3 and 4 let through
pub record SoundBytes (v : Version) (t : List ℕ) : Type 0 where
  pub octets : Octets t
  pub legal : legal_length v (length t) ≡ true
  pub sound : sound_table v t (places_in v t) ≡ true

-- what a call asks: the call's own list on such a table, where rows 3 and 4 say nothing; what rows 1, 2, 5 to 10 and 16 don't refuse is asked
unfoldable pub reading_of : (List ℕ → PacketRead) → BytesCall → Reading Ask
reading_of read q =
    rows1to4 refused q.side q.clock true true
    (packet_rows refused (read q.packet)
    (λ k g. asks (ask_of q.side q.clock k g)))

module _ (v : Version) (read : List ℕ → PacketRead) where
  -- what a call comes to
  abbrev pub called : List ℕ → BytesCall → Outcome
  called t q = outcome_of v q.side q.clock t (read q.packet)

  abbrev pub bytes_machine : Machine
  bytes_machine = record {
    State = List ℕ;
    Call = BytesCall;
    run = λ t q. record {
      answer = (reply_of (called t q)).answer;
      place = (reply_of (called t q)).place;
      next = table_after v t (called t q);
    };
    view = table_of v;
    number = λ p. p;
    reads = reading_of read;
  }

-- the IPv4 filter
abbrev pub ipv4_machine : Machine
ipv4_machine = bytes_machine V4 read_ipv4
