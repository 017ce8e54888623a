use mathlib.Core.Path.{ap, ◌∙◌}
use Rattle.address.specs.declared.Version.TheVariants.{V4}
use Rattle.packet.specs.Read.{read_ipv4}
use Rattle.packet.proofs.Readable.{ipv4-reader}
use Rattle.filter.proofs.Within.{reply-small}
use Rattle.quaybonnet.specs.Packed.{packed}
use Rattle.quaybonnet.proofs.qb_filter.Goals as goal

pub pack-requires : goal.pack-requires
pack-requires c =
    let a = c.args in
    rw c.filter_ipv4-reply.ensures.0 (reply-small V4 read_ipv4 ipv4-reader a.side a.clock a.table.now a.packet.now)

pub returns : goal.returns
returns c = (c.pack.ensures ∙ ap packed c.filter_ipv4-reply.ensures.0, c.filter_ipv4-reply.ensures.1)
