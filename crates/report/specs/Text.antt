-- What the trace program prints (document 01, "Trace lines").
use Rattle.std.specs.Prelude.{ℕ, zero, suc, ◌+◌, ◌/◌, List, [], ◌∷◌, ◌++◌, map, Option, Some, None}
use Rattle.choice.specs.Choice.{when◌then◌else◌, ◌<ᵇ◌, ◌=ᵇ◌}
use Rattle.octets.specs.Digits.{digits}

-- how many decimal digits a number has, of those that have at most k + 1
unfoldable pub count_up_to : ℕ → ℕ → ℕ
count_up_to zero v = 1
count_up_to (suc k) v = when v <ᵇ 10 then 1 else suc (count_up_to k (v / 10))

-- how many decimal digits a number below 10^20 has
unfoldable pub digit_count : ℕ → ℕ
digit_count v = count_up_to 19 v

-- the last n decimal digits of a number as characters
unfoldable pub decimal_digits : ℕ → ℕ → List ℕ
decimal_digits n v = map (λ d. 48 + d) (digits 10 n v)

-- a number below 10^20, without leading zeros
unfoldable pub decimal_text : ℕ → List ℕ
decimal_text v = decimal_digits (digit_count v) v

-- what stands after the answer: a place or an offset, or "-" where there is none
unfoldable pub shown_text : Option ℕ → List ℕ
shown_text (Some n) = decimal_text n
shown_text None = 45 ∷ []

-- a place or an offset in a packet; 65,535 is neither
unfoldable pub shown_place : ℕ → Option ℕ
shown_place place = when place =ᵇ 65535 then None else Some place

-- the line of an answer: the answer, a space, what is shown, a newline
unfoldable pub result_text : ℕ → Option ℕ → List ℕ
result_text answer shown = decimal_text answer ++ ((32 ∷ []) ++ (shown_text shown ++ (10 ∷ [])))

-- "passed "
abbrev pub passed_text : List ℕ
passed_text = 112 ∷ 97 ∷ 115 ∷ 115 ∷ 101 ∷ 100 ∷ 32 ∷ []

-- " of "
abbrev pub of_text : List ℕ
of_text = 32 ∷ 111 ∷ 102 ∷ 32 ∷ []

-- the last line: "passed P of L" and a newline
unfoldable pub total_text : ℕ → ℕ → List ℕ
total_text passed lines = passed_text ++ (decimal_text passed ++ (of_text ++ (decimal_text lines ++ (10 ∷ []))))
