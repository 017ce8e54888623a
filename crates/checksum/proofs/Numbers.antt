-- The ones' complement sum of a number's octets is the number with its carries added in, as 65,536 is 1 modulo 65,535.
use Prim.Native.Nat.{ℕ, zero, suc, ◌+◌, ◌*◌, ◌/◌, ◌%◌, ◌^◌, ◌<◌}
use mathlib.Core.Path.{◌≡◌, refl, ap, ◌∙◌}
use mathlib.Core.List.{List, [], ◌∷◌, ◌++◌, append_assoc}
use native.Mathlib.Omega.{arith}
use native.Mathlib.Nat.{div-lt_iff_lt-mul, pow-zero, pow-suc}
use lib.ListN.{length, length-append}
use Rattle.octets.specs.Octets.{Octets}
use Rattle.octets.specs.Digits.{digits}
use Rattle.octets.specs.BigEndian.{octets_of}
use Rattle.octets.proofs.Octets.{Bytes, bytes-[], bytes-∷, bytes-++}
use Rattle.checksum.specs.Sum.{ones_plus, ones_sum}
use Rattle.checksum.specs.Reduced.{fold, reduced}
use Rattle.checksum.proofs.Reduced.{reduced≤65535, ones_plus≡reduced, reduced-add, reduced-fold}
use Rattle.checksum.proofs.Parts.{ones_sum≤65535, sum-of-parts}

-- octets of whole 16-bit words whose sum is that of a number
pub record SumsTo (l : List ℕ) (s : ℕ) : Type 0 where
  pub octets : Bytes l
  pub whole : length l % 2 ≡ 0
  pub sum : ones_sum l ≡ reduced s

-- any further octets may follow them
pub sum-behind : (l m : List ℕ) (s : ℕ) → SumsTo l s → Octets m → ones_sum (l ++ m) ≡ reduced (s + ones_sum m)
sum-behind l m s first octets =
    let other_way : reduced s + ones_sum m ≡ ones_sum m + reduced s = omega arith in
    let same : ones_sum m + s ≡ s + ones_sum m = omega arith in
    sum-of-parts l m first.octets.small octets first.whole
    ∙ rw (first.sum, ones_plus≡reduced (reduced s) (ones_sum m) (reduced≤65535 s) (ones_sum≤65535 m octets), other_way)
    (reduced-add (ones_sum m) s ∙ ap reduced same)

pub sums-++ : {l m : List ℕ} {s t : ℕ} → SumsTo l s → SumsTo m t → SumsTo (l ++ m) (s + t)
sums-++ {l} {m} {s} {t} first second = record {
  octets = bytes-++ first.octets second.octets;
  whole = omega (arith, length-append l m, first.whole, second.whole);
  sum = sum-behind l m s first second.octets.small ∙ rw second.sum (reduced-add s t);
}

-- by another number with the same carries added in
pub sums-as : {l : List ℕ} {s t : ℕ} → reduced s ≡ reduced t → SumsTo l s → SumsTo l t
sums-as same of = record { octets = of.octets; whole = of.whole; sum = of.sum ∙ same }

pub sums-[] : SumsTo [] 0
unfolding ones_sum reduced
sums-[] = record { octets = bytes-[]; whole = refl; sum = refl }

pub sums_word : (a b : ℕ) → a < 256 → b < 256 → SumsTo (a ∷ b ∷ []) (a * 256 + b)
unfolding ones_sum ones_plus reduced
sums_word a b high low = record { octets = bytes-∷ high (bytes-∷ low bytes-[]); whole = refl; sum = omega arith }

-- how many octets n 16-bit words have
abbrev pub words : ℕ → ℕ
words zero = zero
words (suc n) = suc (suc (words n))

pub sums-number : (n v : ℕ) → v < 65536 ^ n → SumsTo (octets_of (words n) v) v
unfolding octets_of digits fold
sums-number zero v small = let none : v ≡ 0 = omega (arith, rw pow-zero at small) in rw none sums-[]
sums-number (suc n) v small =
    let twice : v / 256 / 256 ≡ v / 65536 = omega arith in
    let front : SumsTo (octets_of (words n) (v / 256 / 256)) (v / 65536) =
    rw twice (sums-number n (v / 65536) ((div-lt_iff_lt-mul (omega arith)).1 (rw pow-suc at small))) in
    let both = sums-++ front (sums_word (v / 256 % 256) (v % 256) (omega arith) (omega arith)) in
    let carried : v / 65536 + (v / 256 % 256 * 256 + v % 256) ≡ fold v = omega arith in
    let split = append_assoc (octets_of (words n) (v / 256 / 256)) (v / 256 % 256 ∷ []) (v % 256 ∷ []) in
    rw split (sums-as (ap reduced carried ∙ reduced-fold v) both)
