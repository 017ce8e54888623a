-- The fields of a text that was written are the numbers that it was written from.
use Rattle.std.proofs.Common.{◌≡◌, ℕ, zero, suc, ◌-◌, ◌^◌, ◌<◌, ◌≤◌, List, [], ◌∷◌, ◌++◌, length, get_or, refl, ap, ◌∙◌, append-nil, mod-eq_of_lt, arith}
use Rattle.choice.proofs.Choice.{when-=, when-=-not}
use Rattle.octets.specs.Digits.{number}
use Rattle.octets.proofs.Digits.{number-cong}
use Rattle.report.specs.Text.{decimal_text}
use Rattle.report.proofs.Text.{decimal_text-digit, number-decimal_text}
use Rattle.script.specs.Fields.{field, decimal_value, decimal_number, decimal_field, spaced, fields_text}
use Rattle.script.proofs.Fields.{decimal_value-digit}

-- each character is a decimal digit
abbrev Digits : List ℕ → Type 0
Digits text = (i : ℕ) → i < length text → (48 ≤ get_or text i 48) × (get_or text i 48 ≤ 57)

no-space : (c : ℕ) (text : List ℕ) → Digits (c ∷ text) → c ≡ 32 → ⊥
no-space c text digits space = omega (arith, digits 0 (omega arith))

later : (c : ℕ) (text : List ℕ) → Digits (c ∷ text) → Digits text
later c text digits i h = digits (suc i) (omega arith)

field-alone : (text : List ℕ) → Digits text → field text 0 ≡ text
unfolding field
field-alone [] digits = refl
field-alone (c ∷ text) digits =
    when-=-not _ _ (no-space c text digits) ∙ ap (λ (l : List ℕ). c ∷ l) (field-alone text (later c text digits))

field-first : (text rest : List ℕ) → Digits text → field (text ++ (32 ∷ rest)) 0 ≡ text
unfolding field
field-first [] rest digits = when-= {a = 32} {b = 32} _ _ refl
field-first (c ∷ text) rest digits =
    when-=-not _ _ (no-space c text digits) ∙ ap (λ (l : List ℕ). c ∷ l) (field-first text rest (later c text digits))

field-rest : (text rest : List ℕ) (spaces : ℕ) → Digits text → field (text ++ (32 ∷ rest)) (suc spaces) ≡ field rest spaces
unfolding field
field-rest [] rest spaces digits = when-= {a = 32} {b = 32} _ _ refl
field-rest (c ∷ text) rest spaces digits =
    when-=-not _ _ (no-space c text digits) ∙ field-rest text rest spaces (later c text digits)

field_past : (text : List ℕ) (spaces : ℕ) → Digits text → field text (suc spaces) ≡ []
unfolding field
field_past [] spaces digits = refl
field_past (c ∷ text) spaces digits = when-=-not _ _ (no-space c text digits) ∙ field_past text spaces (later c text digits)

-- One number

-- within a list the default does not matter
get_d_default : (text : List ℕ) (i d e : ℕ) → i < length text → get_or text i d ≡ get_or text i e
get_d_default [] i d e inside = absurd (omega arith)
get_d_default (c ∷ text) zero d e inside = refl
get_d_default (c ∷ text) (suc i) d e inside = get_d_default text i d e (omega arith)

decimal_number-decimal_text : (v : ℕ) → v < 2 ^ 64 → decimal_number (decimal_text v) ≡ v
unfolding decimal_number
decimal_number-decimal_text v fits =
    let text = decimal_text v in
    number-cong 10 (λ i. decimal_value (get_or text i 0)) (λ i. get_or text i 48 - 48) (length text)
    (λ i h. let digit = decimal_text-digit v i h in rw (get_d_default text i 0 48 h) (decimal_value-digit (get_or text i 48) digit.0 digit.1))
    ∙ number-decimal_text v (omega arith)

decimal_field-number : (line : List ℕ) (spaces v : ℕ) → v < 2 ^ 64 → field line spaces ≡ decimal_text v → decimal_field line spaces ≡ v
unfolding decimal_field
decimal_field-number line spaces v fits e = rw (e, decimal_number-decimal_text v fits) (mod-eq_of_lt fits)

decimal_field-none : (line : List ℕ) (spaces : ℕ) → field line spaces ≡ [] → decimal_field line spaces ≡ 0
unfolding decimal_field decimal_number number
decimal_field-none line spaces e = rw e

decimal_field-same : (l m : List ℕ) (i k : ℕ) → field l i ≡ field m k → decimal_field l i ≡ decimal_field m k
unfolding decimal_field
decimal_field-same l m i k e = rw e

-- All numbers

-- what is read of the fields that were written: each of the numbers, 0 past the last
pub decimal_field-fields_text :
    (first : ℕ) (rest : List ℕ) (i : ℕ) → ((k : ℕ) → get_or (first ∷ rest) k 0 < 2 ^ 64) →
    decimal_field (fields_text first rest) i ≡ get_or (first ∷ rest) i 0
unfolding fields_text spaced
decimal_field-fields_text first [] zero fit =
    rw (append-nil (decimal_text first)) (decimal_field-number (decimal_text first) 0 first (fit 0) (field-alone (decimal_text first) (decimal_text-digit first)))
decimal_field-fields_text first [] (suc i) fit =
    rw (append-nil (decimal_text first)) (decimal_field-none (decimal_text first) (suc i) (field_past (decimal_text first) i (decimal_text-digit first)))
decimal_field-fields_text first (v ∷ vs) zero fit =
    decimal_field-number _ 0 first (fit 0) (field-first (decimal_text first) (decimal_text v ++ spaced vs) (decimal_text-digit first))
decimal_field-fields_text first (v ∷ vs) (suc i) fit =
    decimal_field-same _ _ (suc i) i (field-rest (decimal_text first) (decimal_text v ++ spaced vs) i (decimal_text-digit first))
    ∙ decimal_field-fields_text v vs i (λ k. fit (suc k))
