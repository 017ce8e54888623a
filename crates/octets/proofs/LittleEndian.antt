-- Laws of a word with its first octet lowest: its octets, and these the other way round.
use Prim.Native.Nat.{ℕ, ◌+◌, ◌*◌, ◌/◌, ◌%◌, ◌<◌}
use mathlib.Core.Path.{◌≡◌, ◌∙◌}
use mathlib.Core.List.{List, [], ◌∷◌}
use native.Mathlib.Omega.{arith}
use lib.ListN.{get_or}
use Rattle.octets.specs.BigEndian.{big_endian, octets_of}
use Rattle.octets.specs.Digits.{digits}
use Rattle.octets.specs.LittleEndian.{little_endian, FourOctets, little_octets}
use Rattle.octets.proofs.BigEndian.{big_endian-4}

module _ (l : List ℕ) (at w : ℕ) (small : FourOctets l at) (is : w ≡ little_endian l at) where
  pub octets-of-word : (w % 256 ≡ get_or l at 0) × (w / 256 % 256 ≡ get_or l (at + 1) 0) × (w / 256 / 256 % 256 ≡ get_or l (at + 2) 0) × (w / 256 / 256 / 256 ≡ get_or l (at + 3) 0)
  octets-of-word =
      let p : w / 256 ≡ get_or l (at + 1) 0 + get_or l (at + 2) 0 * 256 + get_or l (at + 3) 0 * 65536 = omega (arith, small) in
      let q : w / 256 / 256 ≡ get_or l (at + 2) 0 + get_or l (at + 3) 0 * 256 = omega (arith, small) in
      (omega (arith, small), omega (arith, small), omega (arith, small), omega (arith, small))

  -- the octets of a word the other way round
  pub swapped-word : w % 256 * 16777216 + w / 256 % 256 * 65536 + w / 256 / 256 % 256 * 256 + w / 256 / 256 / 256 ≡ big_endian 4 l at
  swapped-word =
      let q = octets-of-word in rw (q.0, q.1, q.2, q.3, big_endian-4) (omega arith)

-- the lowest octet of a number, and the rest of it
lowest-and-rest : (w low rest : ℕ) → low < 256 → w ≡ rest * 256 + low → (w % 256 ≡ low) × (w / 256 ≡ rest)
lowest-and-rest w low rest small is = (omega arith, omega arith)

-- a word's octets, lowest first
little_octets-of :
    (a b c d w : ℕ) → a < 256 → b < 256 → c < 256 → w ≡ d * 16777216 + c * 65536 + b * 256 + a →
    little_octets w ≡ a ∷ b ∷ c ∷ d ∷ []
little_octets-of a b c d w ha hb hc is =
    let first = lowest-and-rest w a (d * 65536 + c * 256 + b) ha (omega arith) in
    let second = lowest-and-rest (w / 256) b (d * 256 + c) hb (first.1 ∙ omega arith) in
    let third = lowest-and-rest (w / 256 / 256) c d hc second.1 in
    rw (first.0, second.0, third.0, third.1)

-- those of a word turned are the word's own
pub little_octets-swapped :
    (v w : ℕ) → v < 4294967296 → w ≡ v % 256 * 16777216 + v / 256 % 256 * 65536 + v / 256 / 256 % 256 * 256 + v / 256 / 256 / 256 →
    little_octets w ≡ octets_of 4 v
unfolding octets_of digits
little_octets-swapped v w small is =
    let top : v / 256 / 256 / 256 % 256 ≡ v / 256 / 256 / 256 = omega arith in
    rw top (little_octets-of (v / 256 / 256 / 256) (v / 256 / 256 % 256) (v / 256 % 256) (v % 256) w (omega arith) (omega arith) (omega arith) is)
