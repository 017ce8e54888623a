-- The free entry: its bytes are zeros, zeros are read as it, and it is within its types.
use Prim.Native.Nat.{ℕ}
use mathlib.Core.Path.{◌≡◌, refl}
use mathlib.Core.List.{List, []}
use native.Mathlib.Omega.{arith}
use Rattle.octets.specs.BigEndian.{big_endian, octets_of}
use Rattle.octets.specs.Digits.{tabulate, number, digits}
use Rattle.address.specs.Address.{IsAddress, IsFlow}
use Rattle.address.specs.Flows.{nobody, no_flow}
use Rattle.address.specs.declared.Version.{Version}
use Rattle.address.specs.declared.Version.TheVariants.{V4, V6}
use Rattle.rows.specs.Rows as rows
use Rattle.rows.specs.Connections.{connections}
use Rattle.entry.specs.Layout.{entry_size, connection_at, entry_at, end_bytes, marks_bytes, flow_bytes, numbers_bytes, entry_bytes}
use Rattle.entry.specs.Storable.{Storable}
use Rattle.entry.specs.Viewed.{stored}
use Rattle.address.specs.contracts.EndpointDefault.TheImpl as the_endpoint
use Rattle.address.specs.contracts.FlowDefault.TheImpl as the_flow
use Rattle.address.specs.declared.Endpoint.{Endpoint}
use Rattle.address.specs.declared.Flow.{Flow}
use Rattle.entry.specs.contracts.EntryDefault.TheImpl as the_entry
use Rattle.entry.specs.declared.Entry.{Entry}
use Rattle.connection.proofs.Default.{free_by_default}
use Rattle.entry.proofs.Agree.{entry_at-agree}
use Rattle.table.specs.Table.{all_from, zeros_at}
use Rattle.table.proofs.Zeros.{Zeros, zeros_at-true}

abbrev pub free_entry : Entry
free_entry = stored (rows.free_entry connections)

-- an entry by default is free
endpoint_by_default : (e : Endpoint) → the_endpoint.is_default-value.it e → e ≡ nobody
endpoint_by_default e ((low, high), port) = λ i. record { address = record { low = low i; high = high i }; port = port i }

flow_by_default : (k : Flow) → the_flow.is_default-value.it k → k ≡ no_flow
flow_by_default k (from, to) = λ i. record { from = endpoint_by_default k.from from i; to = endpoint_by_default k.to to i }

pub entry_by_default : (e : Entry) → the_entry.is_default-value.it e → e ≡ free_entry
entry_by_default e (key, connection) =
    λ i. record { key = flow_by_default e.key key i; connection = free_by_default e.connection connection i }

-- an entry of zeros is free
pub zeros-free : (v : Version) (t : List ℕ) (at : ℕ) → Zeros t at (entry_size v) → entry_at v t at ≡ free_entry
unfolding entry_at connection_at big_endian number
zeros-free V4 t at zeros = entry_at-agree V4 t at [] 0 zeros
zeros-free V6 t at zeros = entry_at-agree V6 t at [] 0 zeros

pub free-zeros : (v : Version) → Zeros (entry_bytes v free_entry) 0 (entry_size v)
unfolding entry_bytes marks_bytes flow_bytes numbers_bytes end_bytes octets_of digits tabulate zeros_at all_from
free-zeros V4 = zeros_at-true (entry_bytes V4 free_entry) 0 64 refl
free-zeros V6 = zeros_at-true (entry_bytes V6 free_entry) 0 96 refl

free-fits : (v : Version) → IsAddress v nobody.address
free-fits V4 = (refl, omega arith)
free-fits V6 = (omega arith, omega arith)

free-flow : (v : Version) → IsFlow v no_flow
free-flow v = record { from_address = free-fits v; to_address = free-fits v; from_port = omega arith; to_port = omega arith }

pub storable-free : (v : Version) → Storable v free_entry
storable-free v = record {
  stage = omega arith;
  side = omega arith;
  fins = omega arith;
  key = free-flow v;
  deadline = omega arith;
  two_ends = refl;
  opener_fits = record { end = omega arith; edge = omega arith; win = omega arith };
  answerer_fits = record { end = omega arith; edge = omega arith; win = omega arith };
}
