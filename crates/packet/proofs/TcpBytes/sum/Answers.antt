-- The pseudo-header's fields and the segment's sum, with every carry added in.
use Prim.Native.Nat.{ℕ, ◌+◌, ◌-◌}
use mathlib.Core.Path.{◌≡◌, sym, ap, ap₂, ◌∙◌}
use native.Mathlib.Omega.{arith}
use Rattle.address.specs.Address.{flow_at}
use Rattle.address.specs.declared.Flow.{Flow}
use Rattle.address.proofs.Laws.{fits-flow_at}
use Rattle.checksum.specs.Reduced.{reduced}
use Rattle.packet.specs.TcpSum.{fields_added}
use Rattle.packet.proofs.TcpSum.{tcp_sum≡reduced}
use Rattle.packet.proofs.TcpBytes.sum.Goals as goal

-- the pseudo-header's fields, whatever stands for the segment's addresses and its length
fields_of : {r n : ℕ} {k : Flow} (l : Flow) (m : ℕ) → r ≡ fields_added k n → k ≡ l → n ≡ m → r ≡ fields_added l m
fields_of l m fields flow length = fields ∙ ap₂ fields_added flow length

pub returns : goal.returns
returns c =
    let b = c.args.self in
    let p = b.packet.now in
    let k = flow_at b.version p b.addresses b.begin in
    let fields = fields_of k (b.end - b.begin) c.fields_added.ensures.0 c.flow.ensures (omega arith) in
    c.carries_added.ensures
    ∙ ap reduced (ap₂ (λ (x y : ℕ). x + y) fields (c.from-segment.ensures ∙ c.ones_sum.ensures))
    ∙ sym (tcp_sum≡reduced b.version k p b.begin b.end (fits-flow_at b.version p b.addresses b.begin b.octets) b.octets b.short)
