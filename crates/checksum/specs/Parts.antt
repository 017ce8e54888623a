-- Octets in two parts: where the first has whole 16-bit words, their sum is the sum of the parts' sums. So octets that stand apart, such as a
-- pseudo-header and a segment, can be summed where they stand.
use Rattle.std.specs.Prelude.{ℕ, ◌%◌, ◌≡◌, List, [], ◌∷◌, ◌++◌, length}
use Rattle.octets.specs.Octets.{Octets}
use Rattle.checksum.specs.Sum.{ones_plus, ones_sum}

abbrev pub SumOfParts : Type 0
SumOfParts =
    (first second : List ℕ) → Octets first → Octets second → length first % 2 ≡ 0 →
    ones_sum (first ++ second) ≡ ones_plus (ones_sum first) (ones_sum second)

-- Each premise is needed. Whole 16-bit words: of two octets 01 each makes the word 0100 by itself, and both make 0101.
abbrev pub WholeWordsNeeded : Type 0
WholeWordsNeeded =
    (ones_sum (1 ∷ 1 ∷ []) ≡ 0x0101)
    × (ones_plus (ones_sum (1 ∷ [])) (ones_sum (1 ∷ [])) ≡ 0x0200)

-- Octets, in the first part and in the second: a 256 makes a word of 17 bits, and one addition leaves a carry of it.
abbrev pub OctetsNeeded : Type 0
OctetsNeeded =
    (ones_sum (256 ∷ 0 ∷ 255 ∷ 255 ∷ []) ≡ 0x10000)
    × (ones_plus (ones_sum (256 ∷ 0 ∷ [])) (ones_sum (255 ∷ 255 ∷ [])) ≡ 0x0001)
    × (ones_sum (256 ∷ []) ≡ 0x10000)
    × (ones_plus (ones_sum []) (ones_sum (256 ∷ [])) ≡ 0x0001)
