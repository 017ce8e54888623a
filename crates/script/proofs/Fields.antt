-- Laws of a line's fields.
use Rattle.std.proofs.Common.{◌≡◌, ℕ, zero, suc, ◌+◌, ◌-◌, ◌*◌, ◌/◌, ◌%◌, ◌^◌, ◌<◌, ◌≤◌, List, [], ◌∷◌, ◌++◌, length, get_or, take, drop, sym, refl, ap, ◌∙◌, mod-eq_of_lt, add-one, arith, drop_of_length-le, drop-cons, take-suc}
use native.Mathlib.Nat.{mul-add-mod_self_right}
use lib.Seq.{take-length}
use Rattle.choice.proofs.Choice.{when-true, when-=, when-=-not}
use Rattle.choice.proofs.Tests.{true-between}
use Rattle.octets.specs.Digits.{number}
use Rattle.script.specs.Fields.{field, decimal_value, decimal_number, decimal_field}

-- One character

pub decimal_value-digit : (c : ℕ) → 48 ≤ c → c ≤ 57 → decimal_value c ≡ c - 48
unfolding decimal_value
decimal_value-digit c low high = when-true _ _ _ (true-between 48 57 c low high)

-- A field, character by character

module _ (c : ℕ) (line : List ℕ) where
  field-ended : (spaces : ℕ) → c ≡ 32 → spaces ≡ 0 → field (c ∷ line) spaces ≡ []
  unfolding field
  field-ended spaces space none = rw none (when-= _ _ space)

  field-passed : (spaces : ℕ) → c ≡ 32 → (spaces ≡ 0 → ⊥) → field (c ∷ line) spaces ≡ field line (spaces - 1)
  unfolding field
  field-passed zero space some = absurd (some refl)
  field-passed (suc spaces) space some = when-= _ _ space ∙ ap (field line) (omega arith)

  field-taken : (spaces : ℕ) → (c ≡ 32 → ⊥) → spaces ≡ 0 → field (c ∷ line) spaces ≡ c ∷ field line spaces
  unfolding field
  field-taken spaces char none = rw none (when-=-not _ _ char)

  field-skipped : (spaces : ℕ) → (c ≡ 32 → ⊥) → (spaces ≡ 0 → ⊥) → field (c ∷ line) spaces ≡ field line spaces
  unfolding field
  field-skipped zero char some = absurd (some refl)
  field-skipped (suc spaces) char some = when-=-not _ _ char

-- The number that is read on, character by character

-- the number that characters stand for, after the digits of v
unfoldable pub number_from : ℕ → List ℕ → ℕ
number_from v [] = v
number_from v (c ∷ text) = number_from (v * 10 + decimal_value c) text

number_from-last : (v : ℕ) (text : List ℕ) (c : ℕ) → number_from v (text ++ (c ∷ [])) ≡ number_from v text * 10 + decimal_value c
unfolding number_from
number_from-last v [] c = refl
number_from-last v (b ∷ text) c = number_from-last (v * 10 + decimal_value b) text c

number_from-take : (text : List ℕ) (n : ℕ) → n ≤ length text → number_from 0 (take n text) ≡ number 10 (λ i. decimal_value (get_or text i 0)) n
unfolding number_from number
number_from-take text zero h = refl
number_from-take text (suc n) h =
    rw (take-suc text n 0 (omega arith), number_from-last 0 (take n text) (get_or text n 0), number_from-take text n (omega arith))

pub decimal_number≡number_from : (text : List ℕ) → decimal_number text ≡ number_from 0 text
unfolding decimal_number
decimal_number≡number_from text = sym (number_from-take text (length text) (omega arith)) ∙ ap (number_from 0) (take-length text)

-- multiples of 2^64 do not count
mod-off : (n q r : ℕ) → n ≡ q * 2 ^ 64 + r → n % 2 ^ 64 ≡ r % 2 ^ 64
mod-off n q r e = rw e (mul-add-mod_self_right q (2 ^ 64) r)

digit-mod : (v d : ℕ) → (v * 10 + d) % 2 ^ 64 ≡ (v % 2 ^ 64 * 10 + d) % 2 ^ 64
digit-mod v d = mod-off (v * 10 + d) (v / 2 ^ 64 * 10) (v % 2 ^ 64 * 10 + d) (omega arith)

-- bits that are lost at one digit would be lost at the end
number_from-mod : (v : ℕ) (text : List ℕ) → number_from (v % 2 ^ 64) text % 2 ^ 64 ≡ number_from v text % 2 ^ 64
unfolding number_from
number_from-mod v [] = omega arith
number_from-mod v (c ∷ text) =
    sym (number_from-mod (v % 2 ^ 64 * 10 + decimal_value c) text)
    ∙ ap (λ (n : ℕ). number_from n text % 2 ^ 64) (sym (digit-mod v (decimal_value c)))
    ∙ number_from-mod (v * 10 + decimal_value c) text

-- What is left to read of a line

-- the number from place i of a line on, after so many spaces and the digits of v
unfoldable pub read_from : List ℕ → ℕ → ℕ → ℕ → ℕ
read_from line v spaces i = number_from v (field (drop i line) spaces) % 2 ^ 64

pub decimal_field≡read_from : (line : List ℕ) (spaces : ℕ) → decimal_field line spaces ≡ read_from line 0 spaces 0
unfolding decimal_field read_from
decimal_field≡read_from line spaces = rw (decimal_number≡number_from (field line spaces))

module _ (line : List ℕ) (v spaces i : ℕ) where
  pub read_from-past : length line ≤ i → v < 2 ^ 64 → read_from line v spaces i ≡ v
  unfolding read_from field number_from
  read_from-past past fits = rw (drop_of_length-le line past) (mod-eq_of_lt fits)

  module _ (inside : i < length line) where
    here : drop i line ≡ get_or line i 0 ∷ drop (i + 1) line
    here = rw add-one (drop-cons line i 0 inside)

    pub read_from-ended : v < 2 ^ 64 → get_or line i 0 ≡ 32 → spaces ≡ 0 → read_from line v spaces i ≡ v
    unfolding read_from number_from
    read_from-ended fits space none = rw (here, field-ended _ _ spaces space none) (mod-eq_of_lt fits)

    pub read_from-passed :
        (w s : ℕ) → w ≡ v → s ≡ spaces - 1 → get_or line i 0 ≡ 32 → (spaces ≡ 0 → ⊥) →
        read_from line v spaces i ≡ read_from line w s (i + 1)
    unfolding read_from
    read_from-passed w s p q space some = rw (p, q, here, field-passed _ _ spaces space some)

    pub read_from-taken :
        (w s : ℕ) → w ≡ (v * 10 + decimal_value (get_or line i 0)) % 2 ^ 64 → s ≡ spaces → (get_or line i 0 ≡ 32 → ⊥) → spaces ≡ 0 →
        read_from line v spaces i ≡ read_from line w s (i + 1)
    unfolding read_from number_from
    read_from-taken w s p q char none =
        rw (p, q, here, field-taken _ _ spaces char none) (sym (number_from-mod (v * 10 + decimal_value (get_or line i 0)) (field (drop (i + 1) line) spaces)))

    pub read_from-skipped :
        (w s : ℕ) → w ≡ v → s ≡ spaces → (get_or line i 0 ≡ 32 → ⊥) → (spaces ≡ 0 → ⊥) →
        read_from line v spaces i ≡ read_from line w s (i + 1)
    unfolding read_from
    read_from-skipped w s p q char some = rw (p, q, here, field-skipped _ _ spaces char some)
