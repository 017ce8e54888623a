-- The sum that TCP's checksum makes ffff (document 02, item 5): of the segment with a pseudo-header before it, over both IP versions' addresses.
use Rattle.std.specs.Prelude.{ℕ, ◌+◌, ◌-◌, ◌/◌, ◌%◌, ◌^◌, List, [], ◌∷◌, ◌++◌, take, drop}
use Rattle.octets.specs.BigEndian.{octets_of}
use Rattle.address.specs.Address.{address_octets}
use Rattle.address.specs.declared.Address.{Address}
use Rattle.address.specs.declared.Flow.{Flow}
use Rattle.address.specs.declared.Version.{Version}
use Rattle.address.specs.declared.Version.TheVariants.{V4, V6}
use Rattle.checksum.specs.Sum.{ones_sum}

-- what follows the addresses, for a segment of n octets
abbrev pub pseudo_rest : Version → ℕ → List ℕ
-- RFC 9293, 3.1: zero, protocol, TCP length (2)
pseudo_rest V4 n = 0 ∷ 6 ∷ octets_of 2 n
-- RFC 8200, 8.1: upper-layer packet length (4), three zeros, next header
pseudo_rest V6 n = octets_of 4 n ++ (0 ∷ 0 ∷ 0 ∷ 6 ∷ [])

-- source address, destination address and the rest
abbrev pub pseudo_header : Version → Flow → ℕ → List ℕ
pseudo_header v k n = address_octets v k.from.address ++ (address_octets v k.to.address ++ pseudo_rest v n)

-- the TCP header and the payload: what follows the IP header of h bytes, up to total length t
abbrev pub segment_octets : List ℕ → ℕ → ℕ → List ℕ
segment_octets p h t = take (t - h) (drop h p)

-- TCP length is total length − h; a segment of an odd length is padded by a zero octet, as `ones_sum` has it
unfoldable pub tcp_sum : Version → Flow → List ℕ → ℕ → ℕ → ℕ
tcp_sum v k p h t = ones_sum (pseudo_header v k (t - h) ++ segment_octets p h t)

-- A second form: what the code adds up of either version's pseudo-header, its fields as numbers, before any carry is added in. The ones' complement
-- sum of a number's octets is the number with its carries added in (checksum/proofs/Numbers).

-- the upper and the lower 32 bits of a number below 2^64: 2^32 is 1 modulo 65,535, so both count alike in the sum
unfoldable pub halves_added : ℕ → ℕ
halves_added n = n % (2 ^ 32) + n / (2 ^ 32)

abbrev pub address_added : Address → ℕ
address_added a = halves_added a.high + halves_added a.low

abbrev pub fields_added : Flow → ℕ → ℕ
fields_added k n = address_added k.from.address + address_added k.to.address + 6 + n
