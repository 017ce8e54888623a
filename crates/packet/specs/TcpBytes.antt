-- What an IP header let through, as rows 9, 16 and 10 read it.
use Rattle.std.specs.Prelude.{ℕ, Result, Ok, Err}
use Rattle.address.specs.Address.{flow_at}
use Rattle.address.specs.declared.Flow.{Flow}
use Rattle.packet.specs.TcpSum.{tcp_sum}
use Rattle.packet.specs.Read.{PacketRead, tcp_rows}
use Rattle.packet.specs.declared.PacketError.{PacketError}
use Rattle.packet.specs.declared.TcpBytes.{TcpBytes}

abbrev pub flow_in : TcpBytes → Flow
flow_in b = flow_at b.version b.packet.now b.addresses b.begin

abbrev pub sum_of : TcpBytes → ℕ
sum_of b = tcp_sum b.version (flow_in b) b.packet.now b.begin b.end

abbrev pub tcp_read : TcpBytes → PacketRead
tcp_read b = tcp_rows b.version b.addresses b.packet.now b.begin b.end

-- what the packet is read as, where TCP's header has room behind an IP header that lets it through, or where the packet was refused before
abbrev pub read_on : Result TcpBytes PacketError → PacketRead
read_on (Ok b) = tcp_read b
read_on (Err e) = Err e
