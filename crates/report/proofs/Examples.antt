-- Document 01's example of what the program prints, and the largest number.
use Prim.Native.Nat.{◌-◌, ◌^◌}
use mathlib.Core.Path.{◌≡◌, refl}
use mathlib.Core.List.{[], ◌∷◌}
use Rattle.choice.specs.Choice.{when◌then◌else◌}
use Rattle.octets.specs.Digits.{digits}
use Rattle.report.specs.Text.{count_up_to, digit_count, decimal_digits, decimal_text, shown_text, shown_place, result_text, total_text}

-- "0 0"
passed-at-place-0 : result_text 0 (shown_place 0) ≡ 48 ∷ 32 ∷ 48 ∷ 10 ∷ []
unfolding when◌then◌else◌ digits count_up_to digit_count decimal_digits decimal_text shown_text shown_place result_text
passed-at-place-0 = refl

-- "15 -"
refused-by-15 : result_text 15 (shown_place 65535) ≡ 49 ∷ 53 ∷ 32 ∷ 45 ∷ 10 ∷ []
unfolding when◌then◌else◌ digits count_up_to digit_count decimal_digits decimal_text shown_text shown_place result_text
refused-by-15 = refl

-- "passed 2 of 3"
two-of-three : total_text 2 3 ≡ 112 ∷ 97 ∷ 115 ∷ 115 ∷ 101 ∷ 100 ∷ 32 ∷ 50 ∷ 32 ∷ 111 ∷ 102 ∷ 32 ∷ 51 ∷ 10 ∷ []
unfolding when◌then◌else◌ digits count_up_to digit_count decimal_digits decimal_text total_text
two-of-three = refl

-- "18446744073709551615"
largest : decimal_text (2 ^ 64 - 1) ≡ 49 ∷ 56 ∷ 52 ∷ 52 ∷ 54 ∷ 55 ∷ 52 ∷ 52 ∷ 48 ∷ 55 ∷ 51 ∷ 55 ∷ 48 ∷ 57 ∷ 53 ∷ 53 ∷ 49 ∷ 54 ∷ 49 ∷ 53 ∷ []
unfolding when◌then◌else◌ digits count_up_to digit_count decimal_digits decimal_text
largest = refl
