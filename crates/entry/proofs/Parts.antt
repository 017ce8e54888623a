-- A part of a slice that was filled with one octet.
use Prim.Native.Nat.{ℕ, ◌+◌, ◌-◌, ◌≤◌}
use mathlib.Core.Path.{◌≡◌, ◌∙◌}
use mathlib.Core.List.{List}
use native.Mathlib.Omega.{arith}
use borrow.Rule.Slice.PartMut.{put_mid, mid_len}
use lib.ListN.{length, take, drop, replicate, length-replicate}
use Rattle.octets.specs.Overwrite.{overwrite}
use Rattle.octets.proofs.Library.{copied_part}

pub filled_part :
    (l part : List ℕ) (at end n v : ℕ) → end ≡ at + n → at + n ≤ length l → part ≡ replicate (length (take (end - at) (drop at l))) v →
    put_mid at (end - at) l part ≡ overwrite l at (replicate n v)
filled_part l part at end n v there fits filled =
    let size : length (take (end - at) (drop at l)) ≡ n = mid_len at end l (omega arith) ∙ omega arith in
    rw (filled, size) (copied_part l (replicate n v) at end (omega (arith, length-replicate {A = ℕ} n v)))
