-- Hex digits, lower case only.
use Rattle.std.specs.Prelude.{ℕ, ◌+◌, ◌-◌, Bool, ◌&&◌, ◌||◌, List, [], ◌∷◌, ◌++◌, map, get_or}
use Rattle.choice.specs.Choice.{when◌then◌else◌, ◌<ᵇ◌, ◌≤ᵇ◌}
use Rattle.octets.specs.Digits.{number, digits}

-- '0' to '9'
unfoldable pub is_decimal : ℕ → Bool
is_decimal b = (48 ≤ᵇ b) && (b ≤ᵇ 57)

-- 'a' to 'f'
unfoldable pub is_letter : ℕ → Bool
is_letter b = (97 ≤ᵇ b) && (b ≤ᵇ 102)

unfoldable pub is_hex : ℕ → Bool
is_hex b = is_decimal b || is_letter b

-- what a hex digit is worth; 0 for any other byte
unfoldable pub hex_value : ℕ → ℕ
hex_value b = when is_decimal b then b - 48 else when is_letter b then b - 87 else 0

-- the digit that is worth d, from 0 to 15
unfoldable pub hex_digit : ℕ → ℕ
hex_digit d = when d <ᵇ 10 then 48 + d else 87 + d

-- the number that n hex digits of l from at on stand for
unfoldable pub hex_number : List ℕ → ℕ → ℕ → ℕ
hex_number l at n = number 16 (λ i. hex_value (get_or l (at + i) 0)) n

-- v in n hex digits
unfoldable pub hex_digits : ℕ → ℕ → List ℕ
hex_digits n v = map hex_digit (digits 16 n v)

-- a byte as a hex pair, one after the other
unfoldable pub hex_pairs : List ℕ → List ℕ
hex_pairs [] = []
hex_pairs (b ∷ bs) = hex_digits 2 b ++ hex_pairs bs
