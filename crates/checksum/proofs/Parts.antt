-- Ones' complement addition is associative, so the words' sum is that of their parts.
use Prim.Native.Nat.{ℕ, suc, ◌+◌, ◌*◌, ◌≤◌}
use mathlib.Core.Path.{◌≡◌, refl, sym, ap, ◌∙◌}
use mathlib.Core.List.{List, [], ◌∷◌, ◌++◌}
use native.Mathlib.Omega.{arith}
use Rattle.octets.specs.Octets.{Octets}
use Rattle.checksum.specs.Sum.{ones_plus, ones_sum}
use Rattle.checksum.specs.Groups.{group_sum}
use Rattle.checksum.specs.Reduced.{reduced}
use Rattle.checksum.specs.Parts.{SumOfParts, WholeWordsNeeded, OctetsNeeded}
use Rattle.checksum.proofs.Reduced.{reduced≤65535, ones_plus≡reduced, reduced-add}
use Rattle.checksum.proofs.Groups.{ones_sum≡reduced-groups}

pub ones_sum≤65535 : (l : List ℕ) → Octets l → ones_sum l ≤ 65535
ones_sum≤65535 l small = rw (ones_sum≡reduced-groups l small) (reduced≤65535 (256 * group_sum l))

ones_plus-assoc :
    (x y z : ℕ) → x ≤ 65535 → y ≤ 65535 → z ≤ 65535 → ones_plus x (ones_plus y z) ≡ ones_plus (ones_plus x y) z
ones_plus-assoc x y z hx hy hz =
    let other_way : reduced (x + y) + z ≡ z + reduced (x + y) = omega arith in
    let same : x + (y + z) ≡ z + (x + y) = omega arith in
    rw (
      ones_plus≡reduced y z hy hz,
      ones_plus≡reduced x y hx hy,
      ones_plus≡reduced x (reduced (y + z)) hx (reduced≤65535 (y + z)),
      ones_plus≡reduced (reduced (x + y)) z (reduced≤65535 (x + y)) hz,
      other_way,
    )
    (reduced-add x (y + z) ∙ ap reduced same ∙ sym (reduced-add z (x + y)))

pub sum-of-parts : SumOfParts
unfolding ones_sum ones_plus
sum-of-parts [] second one two whole = omega (arith, ones_sum≤65535 second two)
sum-of-parts (a ∷ []) second one two whole = omega (arith, whole)
sum-of-parts (a ∷ b ∷ l) second one two whole =
    let rest : Octets l = λ i. one (suc (suc i)) in
    let parts : ones_sum (l ++ second) ≡ ones_plus (ones_sum l) (ones_sum second) = sum-of-parts l second rest two (omega (arith, whole)) in
    ap (ones_plus (a * 256 + b)) parts
    ∙ ones_plus-assoc (a * 256 + b) (ones_sum l) (ones_sum second) (omega (arith, one 0, one 1)) (ones_sum≤65535 l rest) (ones_sum≤65535 second two)

pub whole-words-needed : WholeWordsNeeded
unfolding ones_sum ones_plus
whole-words-needed = (refl, refl)

pub octets-needed : OctetsNeeded
unfolding ones_sum ones_plus
octets-needed = (refl, refl, refl, refl)
