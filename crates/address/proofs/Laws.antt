-- Laws of addresses of a version, all by its two cases: whoever cites them needs no case.
use Prim.Native.Nat.{ℕ, ◌+◌, ◌%◌, ◌≤◌}
use mathlib.Core.Path.{◌≡◌, refl, ◌∙◌}
use mathlib.Core.List.{List, ◌++◌}
use native.Mathlib.Omega.{arith}
use lib.ListN.{length, take, drop, length-append}
use Rattle.octets.specs.Octets.{Octets}
use Rattle.octets.specs.BigEndian.{big_endian, octets_of}
use Rattle.octets.specs.Digits.{digits, number}
use Rattle.octets.proofs.Agree.{Agree, part-agree}
use Rattle.octets.proofs.BigEndian.{length-octets_of, big_endian-agree, big_endian<256^n, big_endian-octets_of, octets_of-big_endian, octets_of-add}
use Rattle.octets.proofs.Octets.{Bytes, bytes-++, bytes-octets_of}
use Rattle.octets.proofs.Overwrite.{part-append}
use Rattle.address.specs.Address.{address_size, address_at, address_octets, IsAddress, flow_at, IsFlow}
use Rattle.address.specs.declared.Version.{Version}
use Rattle.address.specs.declared.Version.TheVariants.{V4, V6}
use Rattle.address.specs.declared.Address.{Address}

pub length-address_octets : (v : Version) (a : Address) → length (address_octets v a) ≡ address_size v
length-address_octets V4 a = length-octets_of 4 a.low
length-address_octets V6 a =
    length-append (octets_of 8 a.high) (octets_of 8 a.low)
    ∙ rw (length-octets_of 8 a.high, length-octets_of 8 a.low)

-- places with the same octets have the same address
pub address_at-agree :
    (v : Version) (l : List ℕ) (at : ℕ) (m : List ℕ) (there : ℕ) → Agree l at m there (address_size v) →
    address_at v l at ≡ address_at v m there
address_at-agree V4 l at m there same =
    let low = big_endian-agree l at m there 4 same in λ i. record { high = 0; low = low i }
address_at-agree V6 l at m there same =
    let high = big_endian-agree l at m there 8 (λ i h. same i (omega arith)) in
    let low = big_endian-agree l (at + 8) m (there + 8) 8 (part-agree l at m there 16 same 8 8 (omega arith)) in
    λ i. record { high = high i; low = low i }

first-half : (h l : ℕ) → big_endian 8 (octets_of 8 h ++ octets_of 8 l) 0 ≡ big_endian 8 (octets_of 8 h) 0
unfolding big_endian number octets_of digits
first-half h l = refl

second-half : (h l : ℕ) → big_endian 8 (octets_of 8 h ++ octets_of 8 l) 8 ≡ big_endian 8 (octets_of 8 l) 0
unfolding big_endian number octets_of digits
second-half h l = refl

-- what is written is read
pub address_at-octets : (v : Version) (a : Address) → IsAddress v a → address_at v (address_octets v a) 0 ≡ a
address_at-octets V4 a fits =
    let high : 0 ≡ a.high = omega (arith, fits.0) in
    let low = big_endian-octets_of 4 a.low fits.1 in
    λ i. record { high = high i; low = low i }
address_at-octets V6 a fits =
    let high = first-half a.high a.low ∙ big_endian-octets_of 8 a.high fits.0 in
    let low = second-half a.high a.low ∙ big_endian-octets_of 8 a.low fits.1 in
    λ i. record { high = high i; low = low i }

-- and what is read is what stands there
pub octets-address_at :
    (v : Version) (t : List ℕ) (at : ℕ) → at + address_size v ≤ length t → Octets t →
    address_octets v (address_at v t at) ≡ take (address_size v) (drop at t)
octets-address_at V4 t at fits octets = octets_of-big_endian 4 t at fits octets
octets-address_at V6 t at fits octets =
    let high = octets_of-big_endian 8 t at (omega arith) octets in
    let low = octets_of-big_endian 8 t (at + 8) (omega arith) octets in
    part-append t 8 8 at (at + 8) _ _ refl high low

-- an address that is read from octets is one of its version
fits-address_at : (v : Version) (t : List ℕ) (at : ℕ) → Octets t → IsAddress v (address_at v t at)
fits-address_at V4 t at octets = (refl, big_endian<256^n 4 t at octets)
fits-address_at V6 t at octets = (big_endian<256^n 8 t at octets, big_endian<256^n 8 t (at + 8) octets)

pub fits-flow_at : (v : Version) (t : List ℕ) (addresses ports : ℕ) → Octets t → IsFlow v (flow_at v t addresses ports)
fits-flow_at v t addresses ports octets = record {
  from_address = fits-address_at v t addresses octets;
  to_address = fits-address_at v t (addresses + address_size v) octets;
  from_port = big_endian<256^n 2 t ports octets;
  to_port = big_endian<256^n 2 t (ports + 2) octets;
}

pub bytes-address_octets : (v : Version) (a : Address) → Bytes (address_octets v a)
bytes-address_octets V4 a = bytes-octets_of 4 a.low
bytes-address_octets V6 a = bytes-++ (bytes-octets_of 8 a.high) (bytes-octets_of 8 a.low)

-- four octets of a number are those of its rest by 2^32
pub octets_of-rest : (n : ℕ) → octets_of 4 n ≡ octets_of 4 (n % 4294967296)
unfolding octets_of digits
octets_of-rest n = octets_of-add 0 4 n
