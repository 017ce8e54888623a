-- What is made of octets has octets alone.
use Prim.Native.Nat.{ℕ, zero, suc, ◌+◌, ◌/◌, ◌<◌}
use mathlib.Core.List.{List, [], ◌∷◌, ◌++◌}
use native.Mathlib.Omega.{arith}
use lib.ListN.{length, get_or, take, drop, replicate}
use lib.Seq.{get_or-drop}
use Rattle.octets.specs.Octets.{Octets}
use Rattle.octets.specs.BigEndian.{octets_of}
use Rattle.octets.specs.Digits.{digits}
use Rattle.octets.specs.Overwrite.{overwrite}

-- the same as a record, so that the checker can infer the list
pub record Bytes (l : List ℕ) : Type 0 where
  pub small : Octets l

pub bytes-[] : Bytes []
bytes-[] = record { small = λ i. omega arith }

pub bytes-∷ : {x : ℕ} {l : List ℕ} → x < 256 → Bytes l → Bytes (x ∷ l)
bytes-∷ {x} {l} first rest = record { small = go }
  where
    go : (i : ℕ) → get_or (x ∷ l) i 0 < 256
    go zero = first
    go (suc i) = rest.small i

pub bytes-++ : {xs ys : List ℕ} → Bytes xs → Bytes ys → Bytes (xs ++ ys)
bytes-++ {xs} {ys} first second = record { small = go xs first.small }
  where
    go : (l : List ℕ) → Octets l → (i : ℕ) → get_or (l ++ ys) i 0 < 256
    go [] all i = second.small i
    go (x ∷ l) all zero = all 0
    go (x ∷ l) all (suc i) = go l (λ j. all (suc j)) i

pub bytes-octets_of : (n v : ℕ) → Bytes (octets_of n v)
unfolding octets_of digits
bytes-octets_of zero v = bytes-[]
bytes-octets_of (suc n) v = bytes-++ (bytes-octets_of n (v / 256)) (bytes-∷ (omega arith) bytes-[])

pub bytes-replicate : (n : ℕ) → Bytes (replicate n 0)
bytes-replicate zero = bytes-[]
bytes-replicate (suc n) = bytes-∷ (omega arith) (bytes-replicate n)

pub bytes_take : (n : ℕ) (l : List ℕ) → Octets l → Bytes (take n l)
bytes_take zero l all = bytes-[]
bytes_take (suc n) [] all = bytes-[]
bytes_take (suc n) (x ∷ l) all = bytes-∷ (all 0) (bytes_take n l (λ i. all (suc i)))

pub bytes_drop : (n : ℕ) (l : List ℕ) → Octets l → Bytes (drop n l)
bytes_drop n l all = record { small = λ i. rw (get_or-drop n l i 0) (all (n + i)) }

pub octets-octets_of : (n v : ℕ) → Octets (octets_of n v)
octets-octets_of n v = (bytes-octets_of n v).small

pub octets-overwrite : (l : List ℕ) (at : ℕ) (vs : List ℕ) → Octets l → Octets vs → Octets (overwrite l at vs)
unfolding overwrite
octets-overwrite l at vs old new =
    (bytes-++ (bytes_take at l old) (bytes-++ {xs = vs} (record { small = new }) (bytes_drop (at + length vs) l old))).small
