-- The groups' sum, its carries added in and its octets swapped, is the ones' complement sum.
use Prim.Native.Nat.{ℕ, suc, ◌+◌, ◌*◌, ◌≤◌, ◌<◌}
use mathlib.Core.Path.{◌≡◌, refl}
use mathlib.Core.List.{List, [], ◌∷◌}
use native.Mathlib.Omega.{arith}
use lib.ListN.{length, get_or, drop, drop_of_length-le, get_or-eq_default}
use lib.Seq.{get_or-drop, drop-drop}
use Rattle.octets.specs.Octets.{Octets}
use Rattle.octets.specs.LittleEndian.{little_endian}
use Rattle.checksum.specs.Sum.{ones_plus, ones_sum}
use Rattle.checksum.specs.Groups.{group_sum}
use Rattle.checksum.specs.Reduced.{reduced}
use Rattle.checksum.proofs.Reduced.{ones_plus≡reduced, reduced≤65535, reduced-add, reduced-more}

-- the first group, and those after it
pub group_sum-first : (l : List ℕ) → group_sum l ≡ little_endian l 0 + group_sum (drop 4 l)
unfolding group_sum
group_sum-first [] = refl
group_sum-first (a ∷ []) = omega arith
group_sum-first (a ∷ b ∷ []) = omega arith
group_sum-first (a ∷ b ∷ c ∷ []) = omega arith
group_sum-first (a ∷ b ∷ c ∷ d ∷ l) = refl

-- the first two, and those after them
pub group_sum-pair : (l : List ℕ) → group_sum l ≡ little_endian l 0 + little_endian l 4 + group_sum (drop 8 l)
group_sum-pair l =
    let second : group_sum (drop 4 l) ≡ little_endian l 4 + group_sum (drop 8 l) =
    rw (group_sum-first (drop 4 l), get_or-drop 4 l 0 0, get_or-drop 4 l 1 0, get_or-drop 4 l 2 0, get_or-drop 4 l 3 0, drop-drop 4 4 l) refl in
    omega (arith, group_sum-first l)

-- the last, where there are under four octets: what is missing is zero
pub group_sum-last : (l : List ℕ) → length l < 4 → group_sum l ≡ little_endian l 0
unfolding group_sum
group_sum-last l h =
    let none : drop 4 l ≡ [] = drop_of_length-le l {i = 4} (omega arith) in
    rw (group_sum-first l, none) (omega arith)

pub past-end : (l : List ℕ) (i : ℕ) → length l ≤ i → get_or l i 0 ≡ 0
past-end l i h = get_or-eq_default l 0 h

-- both, for the tactic of last_group
pub ruleset missing_is_zero = (group_sum-last, past-end)

-- A group's two words, before a sum: in ones' complement its upper half counts as its lower one does.
group-before :
    (a b c d y z : ℕ) → a < 256 → b < 256 → c < 256 → d < 256 → z ≡ reduced (256 * y) →
    ones_plus (a * 256 + b) (ones_plus (c * 256 + d) z) ≡ reduced (256 * (a + b * 256 + c * 65536 + d * 16777216 + y))
group-before a b c d y z ha hb hc hd is =
    let words = a * 256 + b + (c * 256 + d + 256 * y) in
    let more : 256 * (a + b * 256 + c * 65536 + d * 16777216 + y) ≡ words + 65535 * (b + c * 256 + d * 65537) = omega arith in
    let lower : ones_plus (c * 256 + d) z ≡ reduced (c * 256 + d + 256 * y) =
    rw (is, ones_plus≡reduced (c * 256 + d) (reduced (256 * y)) (omega arith) (reduced≤65535 (256 * y))) (reduced-add (c * 256 + d) (256 * y)) in
    rw (
      lower,
      ones_plus≡reduced (a * 256 + b) (reduced (c * 256 + d + 256 * y)) (omega arith) (reduced≤65535 (c * 256 + d + 256 * y)),
      more,
      reduced-more words (b + c * 256 + d * 65537) (omega arith),
    )
    (reduced-add (a * 256 + b) (c * 256 + d + 256 * y))

pub ones_sum≡reduced-groups : (l : List ℕ) → Octets l → ones_sum l ≡ reduced (256 * group_sum l)
unfolding ones_sum group_sum reduced ones_plus
ones_sum≡reduced-groups [] small = omega arith
ones_sum≡reduced-groups (a ∷ []) small = omega (arith, small 0)
ones_sum≡reduced-groups (a ∷ b ∷ []) small = omega (arith, small 0, small 1)
ones_sum≡reduced-groups (a ∷ b ∷ c ∷ []) small = omega (arith, small 0, small 1, small 2)
ones_sum≡reduced-groups (a ∷ b ∷ c ∷ d ∷ l) small =
    group-before a b c d (group_sum l) (ones_sum l) (small 0) (small 1) (small 2) (small 3)
    (ones_sum≡reduced-groups l (λ i. small (suc (suc (suc (suc i))))))
