-- One condition of each of the three kinds on a reader (`ReaderOf`) is needed: of one that gives a wider window, or a wider address, than a
-- packet's fields have, or that points past the packet, the demands don't hold.
use Rattle.std.specs.Prelude.{ℕ, ◌+◌, ◌^◌, List, length, Ok}
use Rattle.address.specs.Flows.{endpoint, dotted, between}
use Rattle.address.specs.declared.Version.TheVariants.{V4}
use Rattle.segment.specs.Flags.{SYN}
use Rattle.packet.specs.Read.{PacketRead, refused_at}
use Rattle.packet.specs.declared.Cause.TheVariants.{Short}
use Rattle.connection.specs.Examples.{segment}
use Rattle.rows.specs.Examples.{outward}
use Rattle.demands.specs.Demands.{Demands}

-- the first two take every packet for one SYN
abbrev pub wide_window : List ℕ → PacketRead
wide_window p = Ok (outward, segment SYN 100 1 0 65536)

abbrev pub wide_address : List ℕ → PacketRead
wide_address p = Ok (between (endpoint (record { high = 0; low = 2 ^ 32 }) 1024) (endpoint (dotted 10 0 0 2) 80), segment SYN 100 1 0 1000)

-- refuses every packet, one byte further than right behind it
abbrev pub past_packet : List ℕ → PacketRead
past_packet p = refused_at Short (length p + 1)

-- the first leaves an unsound table, the second another address than the histories have, the third an offset that points to nothing
abbrev pub ReaderNeeded : Type 0
ReaderNeeded = (Demands V4 wide_window → ⊥) × (Demands V4 wide_address → ⊥) × (Demands V4 past_packet → ⊥)
