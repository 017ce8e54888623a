-- Big-endian numbers in a list of octets.
use Rattle.std.specs.Prelude.{ℕ, ◌+◌, List, get_or}
use Rattle.octets.specs.Digits.{number, digits}

-- the number in the n octets of l from at on
unfoldable pub big_endian : ℕ → List ℕ → ℕ → ℕ
big_endian n l at = number 256 (λ i. get_or l (at + i) 0) n

-- the n octets of v
unfoldable pub octets_of : ℕ → ℕ → List ℕ
octets_of n v = digits 256 n v
