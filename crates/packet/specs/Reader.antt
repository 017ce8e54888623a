-- What the layers above ask of a reader of a version's packets.
use Rattle.std.specs.Prelude.{ℕ, ◌≤◌, ◌<◌, ◌≡◌, ◌⊎◌, List, length, Ok}
use Rattle.octets.specs.Octets.{Octets}
use Rattle.address.specs.Address.{IsFlow}
use Rattle.address.specs.declared.Flow.{Flow}
use Rattle.address.specs.declared.Version.{Version}
use Rattle.segment.specs.Readable.{Readable}
use Rattle.segment.specs.declared.Segment.{Segment}
use Rattle.packet.specs.Read.{PacketRead, cause_number, refused_at}
use Rattle.packet.specs.declared.Cause.{Cause}
use Rattle.packet.specs.declared.Cause.TheVariants.{Short, TcpShort}

-- too few bytes are given for an IP header, or follow it for TCP's
abbrev pub BytesMissing : Cause → Type 0
BytesMissing cause = (cause ≡ Short) ⊎ (cause ≡ TcpShort)

-- an offset is below the packet's length or, where bytes are missing, at most it; and below 120, the most bytes that an IP and a TCP header
-- have together
pub record PointsInto (p : List ℕ) (cause : Cause) (offset : ℕ) : Type 0 where
  pub given : (offset < length p) ⊎ (BytesMissing cause × (offset ≤ length p))
  pub below_120 : offset < 120

-- the answers of a refused packet, which are those that causes have: 5 to 10 and 16
abbrev pub PacketAnswer : ℕ → Type 0
PacketAnswer n = ((5 ≤ n) × (n ≤ 10)) ⊎ (n ≡ 16)

-- a reader refuses a packet by a cause with this answer, and the packet broke at this offset, which points into it
pub record BrokenAt (read : List ℕ → PacketRead) (p : List ℕ) (answer offset : ℕ) : Type 0 where
  pub cause : Cause
  pub read_as : read p ≡ refused_at cause offset
  pub numbered : answer ≡ cause_number cause
  pub points : PointsInto p cause offset

-- from octets it gives that version's addresses with 16-bit ports, and a segment as TCP's header and row 10 have it; a refusal points into
-- the packet
pub record ReaderOf (v : Version) (read : List ℕ → PacketRead) : Type 0 where
  pub flow : (p : List ℕ) (k : Flow) (g : Segment) → Octets p → read p ≡ Ok (k, g) → IsFlow v k
  pub segment : (p : List ℕ) (k : Flow) (g : Segment) → Octets p → read p ≡ Ok (k, g) → Readable g
  pub points : (p : List ℕ) (cause : Cause) (offset : ℕ) → read p ≡ refused_at cause offset → PointsInto p cause offset
