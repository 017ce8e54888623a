-- Laws of hex digits: which bytes they are, what they are worth, and that writing a number and reading one undo each other.
use Prim.Native.Nat.{ℕ, zero, suc, ◌+◌, ◌*◌, ◌/◌, ◌%◌, ◌-◌, ◌^◌, ◌≤◌, ◌<◌}
use mathlib.Core.Path.{◌≡◌, refl, sym, ap, ◌∙◌}
use mathlib.Core.Bool.{true, false}
use mathlib.Core.Logic.{◌⊎◌, inl, inr, ⊎_elim}
use mathlib.Core.List.{List, [], ◌∷◌, ◌++◌, map, map-append, append_assoc, append-nil}
use native.Mathlib.Omega.{arith}
use native.Mathlib.Nat.{pow-le-pow_right, zero-add}
use native.Mathlib.Numerals.{add-one}
use lib.ListN.{length, get_or, take, drop, length-append, length-take, length-drop, take-append-drop, get_or-map}
use lib.Seq.{get_or-take, get_or-drop, drop-cons, drop_at, length-take-le, take-add}
use borrow.Author.Tests.{lt-ltb, le-ltb}
use Rattle.choice.specs.Choice.{when◌then◌else◌}
use Rattle.choice.proofs.Choice.{when-true, when-false}
use Rattle.choice.proofs.Tests.{true-or-false, lt-or-ge, ||-true, true-between, not-between-below, not-between-above, between-true}
use Rattle.octets.specs.Digits.{tabulate, number, digits}
use Rattle.octets.proofs.Digits.{number-cong, number_digits, digits_number, number<base^n, tabulate-cong, map-tabulate, tabulate-get_or}
use Rattle.octets.proofs.Text.{length-map-digits, map-digits-suc}
use Rattle.trace.specs.Hex.{is_decimal, is_letter, is_hex, hex_value, hex_digit, hex_number, hex_digits, hex_pairs}

-- One digit

pub digit-decimal : (b : ℕ) → 48 ≤ b → b ≤ 57 → (is_hex b ≡ true) × (hex_value b ≡ b - 48)
unfolding is_decimal is_hex hex_value
digit-decimal b low high =
    let d = true-between 48 57 b low high in (rw d, when-true _ _ _ d)

pub digit-letter : (b : ℕ) → 97 ≤ b → b ≤ 102 → (is_hex b ≡ true) × (hex_value b ≡ b - 87)
unfolding is_decimal is_letter is_hex hex_value
digit-letter b low high =
    let d = not-between-above 48 57 b (omega arith) in
    let l = true-between 97 102 b low high in (rw (d, l), when-false _ _ _ d ∙ when-true _ _ _ l)

no_digit : (b : ℕ) → is_decimal b ≡ false → is_letter b ≡ false → (is_hex b ≡ false) × (hex_value b ≡ 0)
unfolding is_hex hex_value
no_digit b d l = (rw (d, l), when-false _ _ _ d ∙ when-false _ _ _ l)

pub no-digit-below : (b : ℕ) → b < 48 → (is_hex b ≡ false) × (hex_value b ≡ 0)
unfolding is_decimal is_letter
no-digit-below b h = no_digit b (not-between-below 48 57 b h) (not-between-below 97 102 b (omega arith))

pub no-digit-between : (b : ℕ) → 57 < b → b < 97 → (is_hex b ≡ false) × (hex_value b ≡ 0)
unfolding is_decimal is_letter
no-digit-between b g h = no_digit b (not-between-above 48 57 b g) (not-between-below 97 102 b h)

pub no-digit-above : (b : ℕ) → 102 < b → (is_hex b ≡ false) × (hex_value b ≡ 0)
unfolding is_decimal is_letter
no-digit-above b h = no_digit b (not-between-above 48 57 b (omega arith)) (not-between-above 97 102 b h)

is_hex-cases : (b : ℕ) → is_hex b ≡ true → ((48 ≤ b) × (b ≤ 57)) ⊎ ((97 ≤ b) × (b ≤ 102))
unfolding is_decimal is_letter is_hex
is_hex-cases b h =
    ⊎_elim (λ d. inl (between-true 48 57 b d)) (λ l. inr (between-true 97 102 b l)) (||-true (is_decimal b) (is_letter b) h)

pub hex_digit-decimal : (d : ℕ) → d < 10 → hex_digit d ≡ 48 + d
unfolding hex_digit
hex_digit-decimal d h = when-true _ _ _ (lt-ltb d 10 h)

pub hex_digit-letter : (d : ℕ) → 10 ≤ d → hex_digit d ≡ 87 + d
unfolding hex_digit
hex_digit-letter d h = when-false _ _ _ (le-ltb d 10 h)

digit-hex_digit : (d : ℕ) → d < 16 → (is_hex (hex_digit d) ≡ true) × (hex_value (hex_digit d) ≡ d)
digit-hex_digit d h =
    ⊎_elim
    (λ (low : d < 10).
    let p = digit-decimal (48 + d) (omega arith) (omega arith) in rw (hex_digit-decimal d low) (p.0, p.1 ∙ omega arith))
    (λ (high : 10 ≤ d).
    let p = digit-letter (87 + d) (omega arith) (omega arith) in rw (hex_digit-letter d high) (p.0, p.1 ∙ omega arith))
    (lt-or-ge d 10)

pub is_hex-hex_digit : (d : ℕ) → d < 16 → is_hex (hex_digit d) ≡ true
is_hex-hex_digit d h = (digit-hex_digit d h).0

-- a digit is worth what it was made of
pub hex_value-hex_digit : (d : ℕ) → d < 16 → hex_value (hex_digit d) ≡ d
hex_value-hex_digit d h = (digit-hex_digit d h).1

-- and is made of what it is worth
pub hex_digit-hex_value : (b : ℕ) → is_hex b ≡ true → hex_digit (hex_value b) ≡ b
hex_digit-hex_value b h =
    ⊎_elim
    (λ (d : (48 ≤ b) × (b ≤ 57)).
    rw (digit-decimal b d.0 d.1).1 (hex_digit-decimal (b - 48) (omega arith) ∙ omega arith))
    (λ (l : (97 ≤ b) × (b ≤ 102)).
    rw (digit-letter b l.0 l.1).1 (hex_digit-letter (b - 87) (omega arith) ∙ omega arith))
    (is_hex-cases b h)

pub hex_value<16 : (b : ℕ) → hex_value b < 16
unfolding is_decimal is_letter
hex_value<16 b =
    ⊎_elim
    (λ (d : is_decimal b ≡ true).
    let h = between-true 48 57 b d in rw (digit-decimal b h.0 h.1).1 (omega arith))
    (λ (d : is_decimal b ≡ false).
    ⊎_elim
    (λ (l : is_letter b ≡ true).
    let h = between-true 97 102 b l in rw (digit-letter b h.0 h.1).1 (omega arith))
    (λ (l : is_letter b ≡ false). rw (no_digit b d l).1 (omega arith))
    (true-or-false (is_letter b)))
    (true-or-false (is_decimal b))

-- Several digits

pub length-hex_digits : (n v : ℕ) → length (hex_digits n v) ≡ n
unfolding hex_digits
length-hex_digits = length-map-digits hex_digit 16

-- the last digit is the remainder, and those before it are the quotient's
pub hex_digits-suc : (n v : ℕ) → hex_digits (suc n) v ≡ hex_digits n (v / 16) ++ (hex_digit (v % 16) ∷ [])
unfolding hex_digits
hex_digits-suc = map-digits-suc hex_digit 16

map-hex_value-hex_digits : (n v : ℕ) → map hex_value (hex_digits n v) ≡ digits 16 n v
unfolding digits hex_digits
map-hex_value-hex_digits zero v = refl
map-hex_value-hex_digits (suc n) v =
    ap (map hex_value) (hex_digits-suc n v)
    ∙ map-append hex_value (hex_digits n (v / 16)) (hex_digit (v % 16) ∷ [])
    ∙ rw (map-hex_value-hex_digits n (v / 16), hex_value-hex_digit (v % 16) (omega arith))

-- a number is read back from where its digits stand
pub hex_number-hex_digits : (n v : ℕ) (l : List ℕ) (at : ℕ) → v < 16 ^ n → take n (drop at l) ≡ hex_digits n v → hex_number l at n ≡ v
unfolding hex_number hex_value is_decimal is_letter when◌then◌else◌
hex_number-hex_digits n v l at fits here =
    number-cong 16 (λ i. hex_value (get_or l (at + i) 0)) (λ i. get_or (digits 16 n v) i 0) n
    (λ i h. ap hex_value (sym (get_or-drop at l i 0) ∙ sym (get_or-take n (drop at l) i 0 h) ∙ ap (λ (k : List ℕ). get_or k i 0) here)
    ∙ sym (get_or-map hex_value (hex_digits n v) i 0)
    ∙ ap (λ (k : List ℕ). get_or k i 0) (map-hex_value-hex_digits n v))
    ∙ number_digits 16 n v (omega arith) fits

pub hex_number<16^n : (l : List ℕ) (at n : ℕ) → hex_number l at n < 16 ^ n
unfolding hex_number
hex_number<16^n l at n = number<base^n 16 (λ i. hex_value (get_or l (at + i) 0)) n (λ i h. hex_value<16 (get_or l (at + i) 0))

-- twelve digits stay below 2^48
pub hex_number<2^48 : (l : List ℕ) (at n : ℕ) → n ≤ 12 → hex_number l at n < 2 ^ 48
hex_number<2^48 l at n h =
    let top : 16 ^ n ≤ 16 ^ 12 = pow-le-pow_right (omega arith) h in omega (arith, hex_number<16^n l at n)

pub hex_number-suc : (l : List ℕ) (at n : ℕ) → hex_number l at (n + 1) ≡ hex_number l at n * 16 + hex_value (get_or l (at + n) 0)
unfolding hex_number number
hex_number-suc l at n = rw add-one

-- the number that stands in a part
pub hex_number-part : (l : List ℕ) (at n : ℕ) → at + n ≤ length l → hex_number (take n (drop at l)) 0 (length (take n (drop at l))) ≡ hex_number l at n
unfolding hex_number
hex_number-part l at n fits =
    let size : length (take n (drop at l)) ≡ n = simp (length-take, length-drop) (omega arith) in
    rw size
    (number-cong 16 (λ i. hex_value (get_or (take n (drop at l)) (0 + i) 0)) (λ i. hex_value (get_or l (at + i) 0)) n
    (λ i h. rw (zero-add, get_or-take n (drop at l) i 0 h, get_or-drop at l i 0)))

-- and the digits of a number that was read are those that stand there
pub hex_digits-hex_number :
    (l : List ℕ) (at n : ℕ) → at + n ≤ length l → ((i : ℕ) → i < n → is_hex (get_or l (at + i) 0) ≡ true) →
    hex_digits n (hex_number l at n) ≡ take n (drop at l)
unfolding hex_number hex_digits
hex_digits-hex_number l at n fits each =
    ap (map hex_digit) (digits_number 16 (λ i. hex_value (get_or l (at + i) 0)) n (omega arith) (λ i h. hex_value<16 (get_or l (at + i) 0)))
    ∙ map-tabulate hex_digit (λ i. hex_value (get_or l (at + i) 0)) n
    ∙ tabulate-cong (λ i. hex_digit (hex_value (get_or l (at + i) 0))) (λ i. get_or l (at + i) 0) n
    (λ i h. hex_digit-hex_value (get_or l (at + i) 0) (each i h))
    ∙ tabulate-get_or l at n fits

-- Pairs

pub length-hex_pairs : (bs : List ℕ) → length (hex_pairs bs) ≡ 2 * length bs
unfolding hex_pairs
length-hex_pairs [] = refl
length-hex_pairs (b ∷ bs) =
    length-append (hex_digits 2 b) (hex_pairs bs) ∙ rw (length-hex_digits 2 b, length-hex_pairs bs) (omega arith)

pub hex_pairs-append : (bs cs : List ℕ) → hex_pairs (bs ++ cs) ≡ hex_pairs bs ++ hex_pairs cs
unfolding hex_pairs
hex_pairs-append [] cs = refl
hex_pairs-append (b ∷ bs) cs =
    rw (hex_pairs-append bs cs) (sym (append_assoc (hex_digits 2 b) (hex_pairs bs) (hex_pairs cs)))

-- the pairs from byte i on: its own, and those from the next byte on
pub hex_pairs-drop : (bs : List ℕ) (i : ℕ) → i < length bs → hex_pairs (drop i bs) ≡ hex_digits 2 (get_or bs i 0) ++ hex_pairs (drop (i + 1) bs)
unfolding hex_pairs
hex_pairs-drop bs i h = rw (add-one, drop-cons bs i 0 h)

-- byte i stands at the digits 2 i and 2 i + 1
pub drop-hex_pairs : (bs : List ℕ) (i : ℕ) → i ≤ length bs → drop (2 * i) (hex_pairs bs) ≡ hex_pairs (drop i bs)
drop-hex_pairs bs i h =
    ap (λ (k : List ℕ). drop (2 * i) (hex_pairs k)) (sym (take-append-drop i bs))
    ∙ ap (drop (2 * i)) (hex_pairs-append (take i bs) (drop i bs))
    ∙ drop_at (hex_pairs (take i bs)) (hex_pairs (drop i bs)) (2 * i)
    (length-hex_pairs (take i bs) ∙ ap (λ (k : ℕ). 2 * k) (length-take-le i bs h))

-- pairs that stand in l, read byte for byte, are written back
pub hex_pairs-tabulate :
    (f : ℕ → ℕ) (l : List ℕ) (n : ℕ) → ((i : ℕ) → i < n → hex_digits 2 (f i) ≡ take 2 (drop (2 * i) l)) →
    hex_pairs (tabulate f n) ≡ take (2 * n) l
unfolding hex_pairs tabulate
hex_pairs-tabulate f l zero same = refl
hex_pairs-tabulate f l (suc n) same =
    let two : 2 * suc n ≡ 2 * n + 2 = omega arith in
    hex_pairs-append (tabulate f n) (f n ∷ [])
    ∙ rw (two, take-add (2 * n) 2 l, hex_pairs-tabulate f l n (λ i h. same i (omega arith)), append-nil, same n (omega arith))
