-- What row 16 says of some packets, by computation.
use mathlib.Core.Path.{refl}
use Rattle.choice.specs.Choice.{when◌then◌else◌}
use Rattle.octets.specs.Digits.{number, digits}
use Rattle.octets.specs.BigEndian.{big_endian, octets_of}
use Rattle.checksum.specs.Sum.{ones_plus, ones_sum}
use Rattle.packet.specs.TcpSum.{tcp_sum}
use Rattle.packet.specs.Read.{rows6to8, ipv4_header, row10, tcp_rows}
use Rattle.packet.specs.Examples.{RowSixteen}

pub row-sixteen : RowSixteen
unfolding when◌then◌else◌ number digits big_endian octets_of ones_plus ones_sum rows6to8 ipv4_header row10 tcp_rows tcp_sum
row-sixteen = record {
  padded = refl;
  past_total = refl;
  padded_before = refl;
  total_length = refl;
  no_protocol = refl;
  behind = refl;
  zero_wrong = refl;
  zero_right = refl;
  ones_right = refl;
  after_9 = refl;
  before_10 = refl;
  over_ipv6 = refl;
}
