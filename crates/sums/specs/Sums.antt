-- What the two sums give, and the plain sum of 16-bit words.
use Rattle.std.specs.Prelude.{ℕ, ◌+◌, ◌*◌, List, [], ◌∷◌, length}
use Rattle.choice.specs.Choice.{when◌then◌else◌, ◌<ᵇ◌}
use Rattle.checksum.specs.Sum.{ones_sum}

-- the sum of up to 65,535 octets; 65,536, which is no sum, of more
unfoldable pub sum_or_none : List ℕ → ℕ
sum_or_none l =
    when 65535 <ᵇ length l then 65536 else
    ones_sum l

-- the plain sum of the words, before any carry is added in
unfoldable pub word_sum : List ℕ → ℕ
word_sum [] = 0
word_sum (a ∷ []) = a * 256
word_sum (a ∷ b ∷ l) = a * 256 + b + word_sum l
