-- Bytes past total length are ignored: what a row reads lies in the IP header or below the total length.
use Prim.Native.Nat.{ℕ, ◌+◌, ◌-◌, ◌≤◌, ◌<◌}
use mathlib.Core.Path.{◌≡◌, refl, sym, ap, ◌∙◌}
use mathlib.Core.List.{List, ◌++◌}
use native.Mathlib.Omega.{arith}
use lib.ListN.{length, get_or, take, drop, length-append, length-drop, get_or-append}
use lib.Seq.{take-append-le, drop-append-le}
use borrow.Author.Tests.{le-ltb, ltb-false}
use Rattle.std.specs.Prelude.{Ok, Err}
use Rattle.choice.specs.Choice.{◌<ᵇ◌}
use Rattle.choice.proofs.Choice.{when-else-past}
use Rattle.octets.specs.BigEndian.{big_endian}
use Rattle.octets.proofs.BigEndian.{big_endian-agree}
use Rattle.address.specs.Address.{address_size, address_at}
use Rattle.address.specs.declared.Version.{Version}
use Rattle.address.specs.declared.Version.TheVariants.{V4}
use Rattle.address.proofs.Laws.{address_at-agree}
use Rattle.packet.specs.Header.{header_length, total_length}
use Rattle.packet.specs.TcpSum.{segment_octets, tcp_sum}
use Rattle.packet.specs.Read.{IpRead, ipv4_addresses, ipv4_header, tcp_rows, on_header, rows6to8}
use Rattle.packet.specs.Ignored.{PastTotalIgnored}
use Rattle.packet.proofs.Readable.{ipv4-carries}

module _ (p past : List ℕ) where
  octet-unchanged : (i : ℕ) → i < length p → get_or (p ++ past) i 0 ≡ get_or p i 0
  octet-unchanged i inside = get_or-append p past 0 i inside

  big_endian-unchanged : (n at : ℕ) → at + n ≤ length p → big_endian n (p ++ past) at ≡ big_endian n p at
  big_endian-unchanged n at inside = big_endian-agree (p ++ past) at p at n (λ i h. octet-unchanged (at + i) (omega arith))

  -- the octets that TCP's checksum covers
  segment-unchanged : (h t : ℕ) → h ≤ t → t ≤ length p → segment_octets (p ++ past) h t ≡ segment_octets p h t
  segment-unchanged h t behind given =
      ap (take (t - h)) (drop-append-le h p past (omega arith))
      ∙ take-append-le (t - h) (drop h p) past (rw (length-drop h p) (omega arith))

  length-test-unchanged : (n : ℕ) → n ≤ length p → (length (p ++ past) <ᵇ n) ≡ (length p <ᵇ n)
  length-test-unchanged n enough =
      le-ltb (length (p ++ past)) n (rw (length-append p past) (omega arith)) ∙ sym (le-ltb (length p) n enough)

  -- Rows 9, 16 and 10, of every version

  module _ (v : Version) (addresses : ℕ) (inside : addresses + address_size v + address_size v ≤ length p) where
    address-unchanged : (at : ℕ) → at + address_size v ≤ length p → address_at v (p ++ past) at ≡ address_at v p at
    address-unchanged at fits = address_at-agree v (p ++ past) at p at (λ i h. octet-unchanged (at + i) (omega arith))

    tcp_rows-unchanged : (h t : ℕ) → t ≤ length p → tcp_rows v addresses (p ++ past) h t ≡ tcp_rows v addresses p h t
    unfolding tcp_rows tcp_sum
    tcp_rows-unchanged h t given = when-else-past _ refl λ e.
        let room : 20 ≤ t - h = ltb-false (t - h) 20 e in
        rw (
          address-unchanged addresses (omega arith),
          address-unchanged (addresses + address_size v) (omega arith),
          big_endian-unchanged 2 h (omega arith),
          big_endian-unchanged 2 (h + 2) (omega arith),
          big_endian-unchanged 4 (h + 4) (omega arith),
          big_endian-unchanged 4 (h + 8) (omega arith),
          octet-unchanged (h + 12) (omega arith),
          octet-unchanged (h + 13) (omega arith),
          big_endian-unchanged 2 (h + 14) (omega arith),
          segment-unchanged h t (omega arith) given,
        )

    -- what the IP header carries ends in the packet
    on_header-unchanged :
        (r : IpRead) → ((h t : ℕ) → r ≡ Ok (h, t) → t ≤ length p) →
        on_header v addresses (p ++ past) r ≡ on_header v addresses p r
    on_header-unchanged (Err e) ends = refl
    on_header-unchanged (Ok (h, t)) ends = tcp_rows-unchanged h t (ends h t refl)

  -- Rows 5 to 8, of IPv4

  rows6to8-unchanged : (h t : ℕ) → 20 ≤ length p → h ≤ length p → rows6to8 (p ++ past) h t ≡ rows6to8 p h t
  unfolding rows6to8
  rows6to8-unchanged h t whole inside =
      rw (take-append-le h p past inside, big_endian-unchanged 2 6 (omega arith), octet-unchanged 9 (omega arith))

  ipv4_header-unchanged : 20 ≤ length p → total_length p ≤ length p → ipv4_header (p ++ past) ≡ ipv4_header p
  unfolding ipv4_header
  ipv4_header-unchanged whole given =
      rw (octet-unchanged 0 (omega arith), big_endian-unchanged 2 2 (omega arith))
      (when-else-past _ (length-test-unchanged 20 whole) λ e.
      when-else-past _ refl λ e.
      when-else-past _ refl λ e.
      when-else-past _ refl λ room.
      when-else-past _ (length-test-unchanged (total_length p) given) λ e.
      rows6to8-unchanged (header_length p) (total_length p) whole (omega (arith, ltb-false (total_length p) (header_length p) room)))

pub past-total-ignored : PastTotalIgnored
past-total-ignored p past whole given =
    ap (on_header V4 ipv4_addresses (p ++ past)) (ipv4_header-unchanged p past whole given)
    ∙ on_header-unchanged p past V4 ipv4_addresses (omega arith) (ipv4_header p) (λ h t e. omega (arith, (ipv4-carries p h t e).1))
