-- The place of a pass is one of the table's.
use Rattle.std.proofs.Common.{sym}
use Rattle.address.specs.declared.Version.TheVariants.{V4}
use Rattle.packet.specs.Read.{read_ipv4}
use Rattle.filter.proofs.Within.{outcome-within}
use Rattle.filter.proofs.filter_ipv4.Goals as goal

pub store-requires : goal.store-requires
store-requires c =
    let a = c.args in
    let within = outcome-within V4 a.side a.clock a.table.now (read_ipv4 a.packet.now) in
    (rw (sym c.in-Ok.ensures) at within).1
