-- Parts of two lists with the same octets.
use Prim.Native.Nat.{ℕ, ◌+◌, ◌≤◌, ◌<◌}
use mathlib.Core.Path.{◌≡◌, sym, ap, ◌∙◌}
use mathlib.Core.List.{List}
use native.Mathlib.Omega.{arith}
use native.Mathlib.Nat.{zero-add, add_assoc}
use lib.ListN.{length, get_or}
use Rattle.octets.specs.Overwrite.{overwrite}
use Rattle.octets.proofs.Overwrite.{get_or-overwrite}

-- the n octets of l from at on are those of m from there on
abbrev pub Agree : List ℕ → ℕ → List ℕ → ℕ → ℕ → Type 0
Agree l at m there n = (i : ℕ) → i < n → get_or l (at + i) 0 ≡ get_or m (there + i) 0

pub part-agree :
    (l : List ℕ) (at : ℕ) (m : List ℕ) (there n : ℕ) → Agree l at m there n → (k size : ℕ) → k + size ≤ n →
    Agree l (at + k) m (there + k) size
part-agree l at m there n same k size inside i h = rw (add_assoc at k i, add_assoc there k i) (same (k + i) (omega arith))

-- what was written over stands where it was written
pub overwrite-agree : (l : List ℕ) (at : ℕ) (vs : List ℕ) (n : ℕ) → length vs ≡ n → at + n ≤ length l → Agree (overwrite l at vs) at vs 0 n
overwrite-agree l at vs n size fits i h =
    get_or-overwrite l at vs (rw size fits) i (rw size h) ∙ ap (λ (k : ℕ). get_or vs k 0) (sym (zero-add i))
