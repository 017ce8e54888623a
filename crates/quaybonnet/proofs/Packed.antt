-- A place is below 65,536, so that answer and place can be taken apart again.
use native.Mathlib.Omega.{arith}
use Rattle.address.specs.declared.Version.TheVariants.{V4}
use Rattle.packet.specs.Read.{read_ipv4}
use Rattle.packet.proofs.Readable.{ipv4-reader}
use Rattle.filter.proofs.Within.{reply-small}
use Rattle.quaybonnet.specs.Packed.{Unpacked}

pub unpacked : Unpacked
unpacked side clock t packet = let h = reply-small V4 read_ipv4 ipv4-reader side clock t packet in (omega (arith, h.1), omega (arith, h.1))
