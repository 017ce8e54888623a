-- Addresses of both IP versions, and their octets.
use Rattle.std.specs.Prelude.{ℕ, ◌+◌, ◌^◌, ◌<◌, ◌≡◌, List, ◌++◌}
use Rattle.octets.specs.BigEndian.{big_endian, octets_of}
use Rattle.address.specs.declared.Version.{Version}
use Rattle.address.specs.declared.Version.TheVariants.{V4, V6}
use Rattle.address.specs.declared.Address.{Address}
use Rattle.address.specs.declared.Endpoint.{Endpoint}
use Rattle.address.specs.declared.Flow.{Flow}

-- octets of an address (document 01, "The table": 4; document 02, item 14: 16)
abbrev pub address_size : Version → ℕ
address_size V4 = 4
address_size V6 = 16

-- the address whose octets begin at an offset
abbrev pub address_at : Version → List ℕ → ℕ → Address
address_at V4 t at = record { high = 0; low = big_endian 4 t at }
address_at V6 t at = record { high = big_endian 8 t at; low = big_endian 8 t (at + 8) }

abbrev pub address_octets : Version → Address → List ℕ
address_octets V4 a = octets_of 4 a.low
address_octets V6 a = octets_of 8 a.high ++ octets_of 8 a.low

-- an address (4 or 16) and its port (2), which stand apart
abbrev pub endpoint_at : Version → List ℕ → ℕ → ℕ → Endpoint
endpoint_at v t address port = record { address = address_at v t address; port = big_endian 2 t port }

-- two addresses in a row, and their two ports in a row, as packets and entries have them
abbrev pub flow_at : Version → List ℕ → ℕ → ℕ → Flow
flow_at v t addresses ports = record { from = endpoint_at v t addresses ports; to = endpoint_at v t (addresses + address_size v) (ports + 2) }

-- what an address of a version may be
abbrev pub IsAddress : Version → Address → Type 0
IsAddress V4 a = (a.high ≡ 0) × (a.low < 2 ^ 32)
IsAddress V6 a = (a.high < 2 ^ 64) × (a.low < 2 ^ 64)

pub record IsFlow (v : Version) (k : Flow) : Type 0 where
  pub from_address : IsAddress v k.from.address
  pub to_address : IsAddress v k.to.address
  pub from_port : k.from.port < 2 ^ 16
  pub to_port : k.to.port < 2 ^ 16
