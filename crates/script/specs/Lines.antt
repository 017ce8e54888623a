-- A script's lines, where the input's bytes are known.
use Rattle.std.specs.Prelude.{◌≡◌, ℕ, ◌-◌, ◌^◌, ◌<◌, List, [], ◌∷◌, length, take, Option, None, Some, ⊤}
use Rattle.arrayvec.specs.ArrayVec.{ArrayVec}
use Rattle.choice.specs.Choice.{when◌then◌else◌, ◌=ᵇ◌}

-- the characters before the first newline, or all
unfoldable pub line_text : List ℕ → List ℕ
line_text [] = []
line_text (c ∷ input) = when c =ᵇ 10 then [] else c ∷ line_text input

-- what is after that newline
unfoldable pub after_line : List ℕ → List ℕ
after_line [] = []
after_line (c ∷ input) = when c =ᵇ 10 then input else after_line input

-- the first line, cut to 4,096 characters; none where nothing is left
unfoldable pub first_line : List ℕ → Option (List ℕ)
first_line [] = None
first_line (c ∷ input) = Some (take 4096 (line_text (c ∷ input)))

-- an input begins with these lines, and goes on with rest
unfoldable pub BeginsWith : List ℕ → List (List ℕ) → List ℕ → Type 0
BeginsWith input [] rest = rest ≡ input
BeginsWith input (line ∷ lines) rest = (first_line input ≡ Some line) × BeginsWith (after_line input) lines rest

-- these are the lines of an input
abbrev pub AreLines : List ℕ → List (List ℕ) → Type 0
AreLines input lines = BeginsWith input lines []

-- the characters of a line that was found
abbrev pub found_text : Option (ArrayVec ℕ) → Option (List ℕ)
found_text None = None
found_text (Some line) = Some line.items

-- the first line was taken; of an input of 2^64 - 1 bytes and more nothing is said
abbrev pub TakesLine : Option (List ℕ) → Option (List ℕ) → Option (ArrayVec ℕ) → Type 0
TakesLine None new found = ⊤
TakesLine (Some input) None found = ⊥
TakesLine (Some input) (Some rest) found =
    length input < 2 ^ 64 - 1 → (found_text found ≡ first_line input) × (rest ≡ after_line input)
