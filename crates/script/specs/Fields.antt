-- A line's fields: decimal numbers with a space between each two.
use Rattle.std.specs.Prelude.{ℕ, zero, suc, ◌-◌, ◌%◌, ◌^◌, ◌&&◌, List, [], ◌∷◌, ◌++◌, length, slice_index}
use Rattle.choice.specs.Choice.{when◌then◌else◌, ◌≤ᵇ◌, ◌=ᵇ◌}
use Rattle.octets.specs.Digits.{number}
use Rattle.report.specs.Text.{decimal_text}

-- Read

-- the characters after so many spaces, up to the next space
unfoldable pub field : List ℕ → ℕ → List ℕ
field [] spaces = []
field (c ∷ line) zero = when c =ᵇ 32 then [] else c ∷ field line zero
field (c ∷ line) (suc spaces) = when c =ᵇ 32 then field line spaces else field line (suc spaces)

-- what a decimal digit is worth; 0 for any other character
unfoldable pub decimal_value : ℕ → ℕ
decimal_value c = when (48 ≤ᵇ c) && (c ≤ᵇ 57) then c - 48 else 0

-- the number that characters stand for
unfoldable pub decimal_number : List ℕ → ℕ
decimal_number text = number 10 (λ i. decimal_value (slice_index text i)) (length text)

-- the number after so many spaces, with the 64 bits that the code has for it
unfoldable pub decimal_field : List ℕ → ℕ → ℕ
decimal_field line spaces = decimal_number (field line spaces) % 2 ^ 64

-- Written

-- each number after a space
unfoldable pub spaced : List ℕ → List ℕ
spaced [] = []
spaced (v ∷ vs) = 32 ∷ (decimal_text v ++ spaced vs)

-- numbers with a space between each two
unfoldable pub fields_text : ℕ → List ℕ → List ℕ
fields_text first rest = decimal_text first ++ spaced rest
