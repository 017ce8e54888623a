-- The sum of a pseudo-header and a segment, by the pseudo-header's fields as numbers.
use Prim.Native.Nat.{ℕ, ◌+◌, ◌-◌, ◌^◌, ◌<◌}
use mathlib.Core.Path.{◌≡◌, ap}
use mathlib.Core.List.{List, [], ◌∷◌}
use native.Mathlib.Omega.{arith}
use lib.ListN.{drop}
use Rattle.octets.specs.Octets.{Octets}
use Rattle.octets.specs.BigEndian.{octets_of}
use Rattle.octets.proofs.Octets.{bytes_take, bytes_drop}
use Rattle.address.specs.Address.{address_octets, IsAddress, IsFlow}
use Rattle.address.specs.declared.Address.{Address}
use Rattle.address.specs.declared.Flow.{Flow}
use Rattle.address.specs.declared.Version.{Version}
use Rattle.address.specs.declared.Version.TheVariants.{V4, V6}
use Rattle.checksum.specs.Sum.{ones_sum}
use Rattle.checksum.specs.Reduced.{reduced}
use Rattle.checksum.proofs.Numbers.{SumsTo, sum-behind, sums-++, sums-as, sums_word, sums-number}
use Rattle.packet.specs.TcpSum.{pseudo_rest, pseudo_header, segment_octets, tcp_sum, halves_added, address_added, fields_added}

-- 2^32 too is 1 modulo 65,535
reduced-halves : (n : ℕ) → reduced n ≡ reduced (halves_added n)
unfolding reduced halves_added
reduced-halves n = omega arith

sums-halves : (n : ℕ) → n < 2 ^ 64 → SumsTo (octets_of 8 n) (halves_added n)
sums-halves n small = sums-as (reduced-halves n) (sums-number 4 n small)

address-sums : (v : Version) (a : Address) → IsAddress v a → SumsTo (address_octets v a) (address_added a)
unfolding halves_added
address-sums V4 a is =
    let low : a.low ≡ address_added a = omega (arith, is.0, is.1) in
    sums-as (ap reduced low) (sums-number 2 a.low is.1)
address-sums V6 a is = sums-++ (sums-halves a.high is.0) (sums-halves a.low is.1)

zero-octets : SumsTo (0 ∷ 0 ∷ []) 0
zero-octets = sums_word 0 0 (omega arith) (omega arith)

protocol-octet : SumsTo (0 ∷ 6 ∷ []) 6
protocol-octet = sums_word 0 6 (omega arith) (omega arith)

rest-sums : (v : Version) (n : ℕ) → n < 2 ^ 16 → SumsTo (pseudo_rest v n) (6 + n)
rest-sums V4 n small = sums-++ protocol-octet (sums-number 1 n small)
rest-sums V6 n small =
    let other_way : n + (0 + 6) ≡ 6 + n = omega arith in
    sums-as (ap reduced other_way) (sums-++ (sums-number 2 n (omega arith)) (sums-++ zero-octets protocol-octet))

pseudo-sums : (v : Version) (k : Flow) (n : ℕ) → IsFlow v k → n < 2 ^ 16 → SumsTo (pseudo_header v k n) (fields_added k n)
pseudo-sums v k n is small =
    let in_order : address_added k.from.address + (address_added k.to.address + (6 + n)) ≡ fields_added k n = omega arith in
    sums-as (ap reduced in_order)
    (sums-++ (address-sums v k.from.address is.from_address) (sums-++ (address-sums v k.to.address is.to_address) (rest-sums v n small)))

pub tcp_sum≡reduced :
    (v : Version) (k : Flow) (p : List ℕ) (h t : ℕ) → IsFlow v k → Octets p → t - h < 2 ^ 16 →
    tcp_sum v k p h t ≡ reduced (fields_added k (t - h) + ones_sum (segment_octets p h t))
unfolding tcp_sum
tcp_sum≡reduced v k p h t is octets small =
    sum-behind (pseudo_header v k (t - h)) (segment_octets p h t) (fields_added k (t - h)) (pseudo-sums v k (t - h) is small)
    (bytes_take (t - h) (drop h p) (bytes_drop h p octets).small).small
