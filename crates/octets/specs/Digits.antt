-- Positional notation, highest digit first: octets are digits to base 256, hex digits to base 16.
use Rattle.std.specs.Prelude.{ℕ, zero, suc, ◌+◌, ◌*◌, ◌/◌, ◌%◌, List, [], ◌∷◌, ◌++◌}

-- the list of f 0, f 1, .. f (n − 1)
unfoldable pub tabulate : (ℕ → ℕ) → ℕ → List ℕ
tabulate f zero = []
tabulate f (suc n) = tabulate f n ++ (f n ∷ [])

-- the number that the digits f 0, f 1, .. f (n − 1) stand for
unfoldable pub number : ℕ → (ℕ → ℕ) → ℕ → ℕ
number base f zero = 0
number base f (suc n) = number base f n * base + f n

-- the last n digits of v
unfoldable pub digits : ℕ → ℕ → ℕ → List ℕ
digits base zero v = []
digits base (suc n) v = digits base n (v / base) ++ (v % base ∷ [])
