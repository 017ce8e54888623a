-- The standard library's bytes of a number are its octets, and what is copied into a part of a slice is written over that part.
use Prim.Native.Nat.{ℕ, zero, suc, ◌+◌, ◌-◌, ◌/◌, ◌%◌, ◌^◌}
use mathlib.Core.Path.{◌≡◌, refl, sym, ap, ◌∙◌}
use mathlib.Core.List.{List, ◌∷◌}
use native.Mathlib.Omega.{arith}
use borrow.Rule.Slice.PartMut.{put_mid}
use lib.ListN.{length}
use lib.Seq.{drop-drop}
use Rattle.std.specs.Int.{bytes_high_first, byte_at}
use Rattle.octets.specs.BigEndian.{octets_of}
use Rattle.octets.specs.Digits.{digits}
use Rattle.octets.specs.Overwrite.{overwrite}
use Rattle.octets.proofs.BigEndian.{octets_of-add, length-octets_of}

byte_at-is : (n v : ℕ) → byte_at n v ≡ v / 256 ^ n % 256
byte_at-is zero v = let e : v / 1 ≡ v = omega arith in ap (λ (k : ℕ). k % 256) (sym e)
byte_at-is (suc n) v = refl

bytes≡octets_of : (n v : ℕ) → bytes_high_first n v ≡ octets_of n v
unfolding octets_of digits
bytes≡octets_of zero v = refl
bytes≡octets_of (suc n) v =
    let more : 1 + n ≡ suc n = omega arith in
    let same : 0 + n ≡ n = omega arith in
    rw (byte_at-is n v, bytes≡octets_of n v)
    (ap (λ (l : List ℕ). v / 256 ^ n % 256 ∷ l) (rw same at (octets_of-add 0 n v)) ∙ rw more at (sym (octets_of-add 1 n v)))

-- after a copy into the part from at to end
pub copied_part : (l vs : List ℕ) (at end : ℕ) → end ≡ at + length vs → put_mid at (end - at) l vs ≡ overwrite l at vs
unfolding overwrite
copied_part l vs at end there =
    let size : end - at ≡ length vs = omega arith in rw (size, drop-drop (length vs) at l) refl

-- the same of the octets of a number
pub copied_octets :
    (l bytes : List ℕ) (at end n v : ℕ) → end ≡ at + n → bytes ≡ bytes_high_first n v →
    put_mid at (end - at) l bytes ≡ overwrite l at (octets_of n v)
copied_octets l bytes at end n v there is =
    let octets : bytes ≡ octets_of n v = is ∙ bytes≡octets_of n v in
    rw octets (copied_part l (octets_of n v) at end (rw (length-octets_of n v) there))
