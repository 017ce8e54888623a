-- One call of the filter (document 01, "What the gate says"), over what a reader gives of the packet; `outcome_of` is the whole list.
use Rattle.std.specs.Prelude.{ℕ, ◌^◌, Bool, not, List, length, Ok, Err}
use Rattle.choice.specs.Choice.{when◌then◌else◌, ◌≤ᵇ◌}
use Rattle.octets.specs.BigEndian.{octets_of}
use Rattle.octets.specs.Overwrite.{overwrite}
use Rattle.address.specs.declared.Flow.{Flow}
use Rattle.address.specs.declared.Version.{Version}
use Rattle.address.specs.declared.Version.TheVariants.{V4}
use Rattle.segment.specs.declared.Segment.{Segment}
use Rattle.packet.specs.Read.{PacketRead, read_ipv4, cause_number}
use Rattle.rows.specs.Rows as rows
use Rattle.rows.specs.Rows.{Ask, View, Blocked, Passed, nowhere, answer_of, place_by}
use Rattle.rows.specs.Connections.{connections}
use Rattle.entry.specs.Layout.{place_at, entry_bytes}
use Rattle.entry.specs.Viewed.{stored}
use Rattle.entry.specs.declared.Entry.{Entry}
use Rattle.table.specs.Table.{clock_at, sound_table, view_of}
use Rattle.filter.specs.Length.{legal_length, places_for}
use Rattle.filter.specs.declared.Reply.{Reply}

abbrev pub Outcome : Type 0
Outcome = rows.Outcome connections

-- Tables

-- n: the entries after the header
abbrev pub places_in : Version → List ℕ → ℕ
places_in v t = places_for v (length t)

-- the table that the bytes are
abbrev pub table_of : Version → List ℕ → View connections
table_of v t = view_of v t (places_in v t)

-- The list, top to bottom: the first line that applies wins. Each row is said once, whatever a refusal gives and whatever `next` follows

module _ {A : Type 0} (refuse : (answer place : ℕ) → A) where
  -- over whether the table's length is legal and its bytes are sound
  abbrev pub rows1to4 : ℕ → ℕ → Bool → Bool → A → A
  rows1to4 side clock legal sound next =
      -- 1: side is not 0 or 1
      when not (side ≤ᵇ 1) then refuse 1 nowhere
      -- 2: clock is 2^48 ms or more
      else when 2 ^ 48 ≤ᵇ clock then refuse 2 nowhere
      -- 3: table length is not 64·(n+1), in an IPv6 table 64 + 96·n, with n from 1 to 512
      else when not legal then refuse 3 nowhere
      -- 4: table is unsound
      else when not sound then refuse 4 nowhere
      else next

  -- 5 to 10, with 16 after 9, as the version's reader has them; the place is the offset of the cause (document 02, items 2 and 5)
  abbrev pub packet_rows : PacketRead → (Flow → Segment → A) → A
  packet_rows (Err e) next = refuse (cause_number e.cause) e.offset
  packet_rows (Ok (k, g)) next = next k g

-- a packet's flow and segment, with its side and clock, as rows 11 to 15 and 0 are asked
abbrev pub ask_of : ℕ → ℕ → Flow → Segment → Ask
ask_of side clock k g = record { side = side; clock = clock; key = k; segment = g }

-- 11 to 15 and 0 are `rows`'
unfoldable pub outcome_of : Version → ℕ → ℕ → List ℕ → PacketRead → Outcome
outcome_of v side clock t read =
    rows1to4 Blocked side clock (legal_length v (length t)) (sound_table v t (places_in v t))
    (packet_rows Blocked read
    (λ k g. rows.filter connections (table_of v t) (ask_of side clock k g)))

-- the IPv4 filter
abbrev pub ipv4_outcome : ℕ → ℕ → List ℕ → List ℕ → Outcome
ipv4_outcome side clock t packet = outcome_of V4 side clock t (read_ipv4 packet)

-- What a call gives and leaves

-- the whole table is viewed, so each place is its own number
abbrev pub reply_of : Outcome → Reply
reply_of o = record { answer = answer_of connections o; place = place_by (λ p. p) o }

-- the table with the clock used in its header and another entry at a place
abbrev pub with_entry : Version → List ℕ → ℕ → ℕ → Entry → List ℕ
with_entry v t p now e = overwrite (overwrite t clock_at (octets_of 8 now)) (place_at v p) (entry_bytes v e)

-- a pass changes only the header clock and that entry; every other answer changes no byte
abbrev pub table_after : Version → List ℕ → Outcome → List ℕ
table_after v t (Blocked n place) = t
table_after v t (Passed p now e) = with_entry v t p now (stored e)
