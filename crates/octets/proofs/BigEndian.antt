-- Laws of big-endian numbers: their widths and bounds, and that reading and writing undo each other.
use Prim.Native.Nat.{ℕ, ◌+◌, ◌*◌, ◌/◌, ◌%◌, ◌^◌, ◌≤◌, ◌<◌}
use mathlib.Core.Path.{◌≡◌, refl, sym, ap, ◌∙◌}
use mathlib.Core.List.{List, ◌++◌}
use native.Mathlib.Omega.{arith}
use native.Mathlib.Nat.{add-zero, zero-add, add_assoc, div-add-mod', mod-lt, one-le-pow}
use lib.ListN.{length, get_or, take, drop, replicate}
use Rattle.octets.specs.Octets.{Octets}
use Rattle.octets.specs.Digits.{number, digits}
use Rattle.octets.specs.BigEndian.{big_endian, octets_of}
use Rattle.octets.specs.Overwrite.{overwrite}
use Rattle.octets.proofs.Digits.{length_digits, number-cong, number<base^n, number-add, number_digits, digits-add, digits_number, tabulate-get_or}
use Rattle.octets.proofs.Agree.{Agree, overwrite-agree}

-- Widths

pub big_endian-2 : (l : List ℕ) (at : ℕ) → big_endian 2 l at ≡ get_or l at 0 * 256 + get_or l (at + 1) 0
unfolding big_endian number
big_endian-2 l at = rw add-zero (omega arith)

pub big_endian-4 :
    (l : List ℕ) (at : ℕ) →
    big_endian 4 l at ≡ ((get_or l at 0 * 256 + get_or l (at + 1) 0) * 256 + get_or l (at + 2) 0) * 256 + get_or l (at + 3) 0
unfolding big_endian number
big_endian-4 l at = rw add-zero (omega arith)

pub big_endian-add : (m n : ℕ) (l : List ℕ) (at : ℕ) → big_endian (m + n) l at ≡ big_endian m l at * 256 ^ n + big_endian n l (at + m)
unfolding big_endian
big_endian-add m n l at =
    number-add 256 (λ i. get_or l (at + i) 0) m n
    ∙ ap (λ (k : ℕ). number 256 (λ i. get_or l (at + i) 0) m * 256 ^ n + k)
    (number-cong 256 (λ i. get_or l (at + (m + i)) 0) (λ i. get_or l (at + m + i) 0) n (λ i h. rw add_assoc))

pub octets_of-add : (m n v : ℕ) → octets_of (m + n) v ≡ octets_of m (v / 256 ^ n) ++ octets_of n (v % 256 ^ n)
unfolding octets_of
octets_of-add m n v =
    ap (digits 256 (m + n)) (sym (div-add-mod' v (256 ^ n)))
    ∙ digits-add 256 m n (v / 256 ^ n) (v % 256 ^ n) (omega arith) (mod-lt v (one-le-pow n 256 (omega arith)))

pub length-octets_of : (n v : ℕ) → length (octets_of n v) ≡ n
unfolding octets_of
length-octets_of n v = length_digits 256 n v

-- a number of n octets is below 256^n
pub big_endian<256^n : (n : ℕ) (l : List ℕ) (at : ℕ) → Octets l → big_endian n l at < 256 ^ n
unfolding big_endian
big_endian<256^n n l at octets = number<base^n 256 (λ i. get_or l (at + i) 0) n (λ i h. octets (at + i))

-- parts with the same octets are the same number
pub big_endian-agree : (l : List ℕ) (at : ℕ) (m : List ℕ) (there n : ℕ) → Agree l at m there n → big_endian n l at ≡ big_endian n m there
unfolding big_endian
big_endian-agree l at m there n same = number-cong 256 (λ i. get_or l (at + i) 0) (λ i. get_or m (there + i) 0) n same

-- Reading and writing

-- two numbers 0 are 16 zeros
pub octets_of-0-0 : octets_of 8 0 ++ octets_of 8 0 ≡ replicate 16 0
unfolding octets_of digits
octets_of-0-0 = refl

pub big_endian-octets_of : (n v : ℕ) → v < 256 ^ n → big_endian n (octets_of n v) 0 ≡ v
unfolding big_endian octets_of
big_endian-octets_of n v small =
    number-cong 256 (λ i. get_or (digits 256 n v) (0 + i) 0) (λ i. get_or (digits 256 n v) i 0) n
    (λ i h. ap (λ (k : ℕ). get_or (digits 256 n v) k 0) (zero-add i))
    ∙ number_digits 256 n v (omega arith) small

-- a number is read back from where its octets were written
pub big_endian-overwrite :
    (n v : ℕ) (l : List ℕ) (at : ℕ) → at + n ≤ length l → v < 256 ^ n →
    big_endian n (overwrite l at (octets_of n v)) at ≡ v
big_endian-overwrite n v l at fits small =
    big_endian-agree (overwrite l at (octets_of n v)) at (octets_of n v) 0 n (overwrite-agree l at (octets_of n v) n (length-octets_of n v) fits)
    ∙ big_endian-octets_of n v small

-- and the octets of a number that was read are those that stand there
pub octets_of-big_endian : (n : ℕ) (l : List ℕ) (at : ℕ) → at + n ≤ length l → Octets l → octets_of n (big_endian n l at) ≡ take n (drop at l)
unfolding big_endian octets_of
octets_of-big_endian n l at fits small =
    digits_number 256 (λ i. get_or l (at + i) 0) n (omega arith) (λ i h. small (at + i)) ∙ tabulate-get_or l at n fits
