-- Document 01's example on bytes ("Trace lines"): three packets through a fresh table of two places.
use Rattle.std.specs.Prelude.{ℕ, ◌≡◌, List, [], ◌∷◌}
use Rattle.address.specs.declared.Version.TheVariants.{V4}
use Rattle.packet.specs.Examples.{ipv4}
use Rattle.filter.specs.Call.{ipv4_outcome, reply_of, table_after}
use Rattle.honest.specs.Marked as marked
use Rattle.demands.specs.Demands.{fresh_bytes}
use Rattle.demands.specs.Packets.{packet_of}

-- from 10.0.0.x to 10.0.0.y, 20 bytes of TCP's header
abbrev carrying : (x y : ℕ) → List ℕ → List ℕ
carrying x y tcp = ipv4 0x45 40 0 6 0x66 0xce x y tcp

abbrev pub packet1 : List ℕ
packet1 =
    carrying 1 2
    (4 ∷ 0 ∷ 0 ∷ 80
    ∷ 0 ∷ 0 ∷ 0 ∷ 100
    ∷ 0 ∷ 0 ∷ 0 ∷ 0
    ∷ 80 ∷ 2 ∷ 3 ∷ 232
    ∷ 147 ∷ 68 ∷ 0 ∷ 0 ∷ [])

abbrev pub packet2 : List ℕ
packet2 =
    carrying 2 1
    (0 ∷ 80 ∷ 4 ∷ 0
    ∷ 0 ∷ 0 ∷ 1 ∷ 244
    ∷ 0 ∷ 0 ∷ 0 ∷ 101
    ∷ 80 ∷ 18 ∷ 7 ∷ 208
    ∷ 141 ∷ 87 ∷ 0 ∷ 0 ∷ [])

abbrev pub packet3 : List ℕ
packet3 =
    carrying 1 2
    (4 ∷ 0 ∷ 0 ∷ 80
    ∷ 0 ∷ 0 ∷ 0 ∷ 101
    ∷ 0 ∷ 0 ∷ 1 ∷ 246
    ∷ 80 ∷ 16 ∷ 3 ∷ 232
    ∷ 145 ∷ 63 ∷ 0 ∷ 0 ∷ [])

abbrev pub after_packet1 : List ℕ
after_packet1 = table_after V4 (fresh_bytes V4 2) (ipv4_outcome 0 0 (fresh_bytes V4 2) packet1)

abbrev pub after_packet2 : List ℕ
after_packet2 = table_after V4 after_packet1 (ipv4_outcome 1 100 after_packet1 packet2)

-- the SYN opens place 0, the SYN+ACK passes there, and the ACK of what was never sent is blocked
abbrev pub ExampleAnswers : Type 0
ExampleAnswers =
    (reply_of (ipv4_outcome 0 0 (fresh_bytes V4 2) packet1) ≡ record { answer = 0; place = 0 })
    × (reply_of (ipv4_outcome 1 100 after_packet1 packet2) ≡ record { answer = 0; place = 0 })
    × (reply_of (ipv4_outcome 0 200 after_packet2 packet3) ≡ record { answer = 15; place = 65535 })

-- these are the bytes that the marked set's calls make, checksums and all
abbrev pub ExamplePackets : Type 0
ExamplePackets = (packet_of marked.packet1 ≡ packet1) × (packet_of marked.packet2 ≡ packet2) × (packet_of marked.packet3 ≡ packet3)
