-- What the code adds up: groups of four octets, the first the lowest. `ones_sum l` is `reduced (256 * group_sum l)` (proofs/Groups): the
-- factor 256 swaps the two octets of the sum.
use Rattle.std.specs.Prelude.{ℕ, ◌+◌, ◌*◌, List, [], ◌∷◌}

-- the plain sum of the groups, before any carry is added in; what the last group lacks is zero
unfoldable pub group_sum : List ℕ → ℕ
group_sum [] = 0
group_sum (a ∷ []) = a
group_sum (a ∷ b ∷ []) = a + b * 256
group_sum (a ∷ b ∷ c ∷ []) = a + b * 256 + c * 65536
group_sum (a ∷ b ∷ c ∷ d ∷ l) = a + b * 256 + c * 65536 + d * 16777216 + group_sum l
