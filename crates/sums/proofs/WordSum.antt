-- The ones' complement sum is the plain sum of the words with the carries added in at the end.
use Prim.Native.Nat.{ℕ, suc, ◌+◌, ◌-◌, ◌*◌, ◌%◌, ◌≤◌, ◌<◌}
use mathlib.Core.Path.{◌≡◌, refl, sym, ap, ◌∙◌}
use mathlib.Core.List.{List, [], ◌∷◌, ◌++◌}
use native.Mathlib.Omega.{arith}
use lib.ListN.{length, get_or, drop, length-append}
use lib.Seq.{drop_at, drop-drop}
use Rattle.octets.specs.Octets.{Octets}
use Rattle.octets.specs.BigEndian.{big_endian}
use Rattle.octets.proofs.BigEndian.{big_endian-2}
use Rattle.checksum.specs.Sum.{ones_sum}
use Rattle.checksum.specs.Reduced.{reduced}
use Rattle.checksum.proofs.Reduced.{reduced≤65535, ones_plus≡reduced, reduced-add}
use Rattle.sums.specs.Sums.{word_sum}

pub ones_sum≡reduced-words : (l : List ℕ) → Octets l → ones_sum l ≡ reduced (word_sum l)
unfolding ones_sum word_sum reduced
ones_sum≡reduced-words [] small = refl
ones_sum≡reduced-words (a ∷ []) small = omega (arith, small 0)
ones_sum≡reduced-words (a ∷ b ∷ l) small =
    let rest : ones_sum l ≡ reduced (word_sum l) = ones_sum≡reduced-words l (λ i. small (suc (suc i))) in
    rw (rest, ones_plus≡reduced (a * 256 + b) (reduced (word_sum l)) (omega (arith, small 0, small 1)) (reduced≤65535 (word_sum l)))
    (reduced-add (a * 256 + b) (word_sum l))

-- a word, and those after it
pub word_sum-word : (word l : List ℕ) → length word ≡ 2 → word_sum (word ++ l) ≡ big_endian 2 word 0 + word_sum l
unfolding word_sum
word_sum-word (a ∷ b ∷ []) l two = rw big_endian-2 refl
word_sum-word [] l two = absurd (omega arith)
word_sum-word (a ∷ []) l two = absurd (omega arith)
word_sum-word (a ∷ b ∷ c ∷ more) l two = absurd (omega arith)

-- where no whole word is left, an odd octet is the high one of its word
pub word_sum-odd : (l : List ℕ) → length l < 2 → word_sum l ≡ get_or l 0 0 * 256
unfolding word_sum
word_sum-odd [] few = refl
word_sum-odd (a ∷ []) few = refl
word_sum-odd (a ∷ b ∷ l) few = absurd (omega arith)

-- The end of the octets, from which the loop takes a word at a time
module _ (octets end : List ℕ) (there : end ≡ drop (length octets - length end) octets) (within : length end ≤ length octets) where
  pub end-after-word : (word after : List ℕ) → end ≡ word ++ after → length word ≡ 2 → after ≡ drop (length octets - length after) octets
  end-after-word word after parts two =
      let sizes : length end ≡ length word + length after = ap length parts ∙ length-append word after in
      let further : length octets - length end + 2 ≡ length octets - length after = omega arith in
      sym (drop_at word after 2 two)
      ∙ ap (drop 2) (sym parts ∙ there)
      ∙ drop-drop 2 (length octets - length end) octets
      ∙ ap (λ (k : ℕ). drop k octets) further

  -- without a whole word it is what an even number of octets leaves over
  pub end-left-over : length end < 2 → length end % 2 ≡ length octets % 2 → end ≡ drop (length octets - length octets % 2) octets
  end-left-over few even =
      let left : length end ≡ length octets % 2 = omega arith in
      there ∙ ap (λ (k : ℕ). drop (length octets - k) octets) left
