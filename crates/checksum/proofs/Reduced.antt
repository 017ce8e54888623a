-- Adding the carries in leaves a sum's rest modulo 65,535, and 0 only of 0.
use Prim.Native.Nat.{ℕ, ◌+◌, ◌*◌, ◌/◌, ◌%◌, ◌≤◌, ◌<◌}
use mathlib.Core.Path.{◌≡◌}
use native.Mathlib.Omega.{arith}
use Rattle.checksum.specs.Sum.{ones_plus}
use Rattle.checksum.specs.Reduced.{fold, reduced}

pub reduced≤65535 : (s : ℕ) → reduced s ≤ 65535
unfolding reduced
reduced≤65535 s = omega arith

pub ones_plus≡reduced : (x y : ℕ) → x ≤ 65535 → y ≤ 65535 → ones_plus x y ≡ reduced (x + y)
unfolding ones_plus reduced
ones_plus≡reduced x y hx hy = omega arith

pub reduced-add : (x y : ℕ) → reduced (x + reduced y) ≡ reduced (x + y)
unfolding reduced
reduced-add x y = omega arith

-- a multiple of 65,535 more changes nothing of what is not 0; the premise says this without a case, as wide as a group needs it
pub reduced-more : (x m : ℕ) → m ≤ 65537 * x → reduced (x + 65535 * m) ≡ reduced x
unfolding reduced
reduced-more x m h = omega arith

-- a round of carries changes nothing of it
pub reduced-fold : (s : ℕ) → reduced (fold s) ≡ reduced s
unfolding reduced fold
reduced-fold s = omega arith

-- it leaves 16 bits and the carries at most,
pub fold-below : (s b : ℕ) → s < 65536 * b → fold s < 65536 + b
unfolding fold
fold-below s b h = omega arith

-- and is the last one where two words were left
pub fold≡reduced : (s : ℕ) → s ≤ 131070 → fold s ≡ reduced s
unfolding reduced fold
fold≡reduced s h = omega arith

-- Swapping the octets of every word swaps those of the sum (RFC 1071, section 2).
pub swapped≡reduced : (s t : ℕ) → t ≡ reduced s → t % 256 * 256 + t / 256 % 256 ≡ reduced (256 * s)
unfolding reduced
swapped≡reduced s t is = omega arith
