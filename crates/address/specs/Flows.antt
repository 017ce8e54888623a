-- Addresses and ports, the sender's first: the key that a packet and an entry of the table are compared by.
use Rattle.std.specs.Prelude.{ℕ, ◌+◌, ◌*◌, Bool, ◌&&◌}
use Rattle.choice.specs.Choice.{◌=ᵇ◌}
use Rattle.address.specs.declared.Address.{Address}
use Rattle.address.specs.declared.Endpoint.{Endpoint}
use Rattle.address.specs.declared.Flow.{Flow}

abbrev pub same_address : Address → Address → Bool
same_address x y = (x.low =ᵇ y.low) && (x.high =ᵇ y.high)

abbrev pub same_endpoint : Endpoint → Endpoint → Bool
same_endpoint x y = same_address x.address y.address && (x.port =ᵇ y.port)

unfoldable pub same_flow : Flow → Flow → Bool
same_flow j k = same_endpoint j.from k.from && same_endpoint j.to k.to

-- the other way round
abbrev pub reversed : Flow → Flow
reversed k = record { from = k.to; to = k.from }

abbrev pub between : Endpoint → Endpoint → Flow
between x y = record { from = x; to = y }

-- all zeros, in a free entry
abbrev pub nobody : Endpoint
nobody = record { address = record { high = 0; low = 0 }; port = 0 }

abbrev pub no_flow : Flow
no_flow = between nobody nobody

abbrev pub endpoint : Address → ℕ → Endpoint
endpoint address port = record { address = address; port = port }

-- a.b.c.d
abbrev pub dotted : ℕ → ℕ → ℕ → ℕ → Address
dotted a b c d = record { high = 0; low = ((a * 256 + b) * 256 + c) * 256 + d }
