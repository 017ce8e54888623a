-- Laws of collected output.
use Rattle.std.proofs.Common.{◌≡◌, ℕ, zero, suc, ◌+◌, ◌<◌, ◌≤◌, List, [], ◌∷◌, ◌++◌, length, get_or, take, refl, sym, ap, ◌∙◌, append-nil, append_assoc, add-one, arith, length-append, length-take-le, take-suc}
use Rattle.choice.proofs.Choice.{when-<}
use Rattle.report.specs.Text.{decimal_text}
use Rattle.script.specs.Fields.{spaced, fields_text}
use Rattle.script.specs.Output.{with_byte, with_bytes}

pub with_byte-room : (held : List ℕ) (b : ℕ) → length held < 65536 → with_byte held b ≡ held ++ (b ∷ [])
unfolding with_byte
with_byte-room held b h = when-< _ _ h

pub with_bytes-append : (held : List ℕ) (xs ys : List ℕ) → with_bytes held (xs ++ ys) ≡ with_bytes (with_bytes held xs) ys
unfolding with_bytes
with_bytes-append held [] ys = refl
with_bytes-append held (x ∷ xs) ys = with_bytes-append (with_byte held x) xs ys

-- bytes that there is room for are added to what is held
pub with_bytes-room : (held bytes : List ℕ) → length held + length bytes ≤ 65536 → with_bytes held bytes ≡ held ++ bytes
unfolding with_bytes
with_bytes-room held [] room = sym (append-nil held)
with_bytes-room held (b ∷ bytes) room =
    rw (with_byte-room held b (omega arith))
    (with_bytes-room (held ++ (b ∷ [])) bytes (omega (arith, length-append held (b ∷ []))) ∙ append_assoc held (b ∷ []) bytes)

-- so many are held then
pub length-with_bytes : (held after bytes : List ℕ) → length held + length bytes ≤ 65536 → after ≡ with_bytes held bytes → length after ≡ length held + length bytes
length-with_bytes held after bytes room e = rw (e, with_bytes-room held bytes room) (length-append held bytes)

pub length-with_bytes_part :
    (held after bytes : List ℕ) (i : ℕ) → i ≤ length bytes → length held + length bytes ≤ 65536 → after ≡ with_bytes held (take i bytes) →
    length after ≡ length held + i
length-with_bytes_part held after bytes i inside room e =
    let part : length (take i bytes) ≡ i = length-take-le i bytes inside in
    length-with_bytes held after (take i bytes) (omega arith) e ∙ ap (λ n. length held + n) part

-- one more byte of a list
pub with_bytes-next :
    (held before after bytes : List ℕ) (i : ℕ) → i < length bytes → before ≡ with_bytes held (take i bytes) → after ≡ with_byte before (get_or bytes i 0) →
    after ≡ with_bytes held (take (i + 1) bytes)
unfolding with_bytes
with_bytes-next held before after bytes i inside p q =
    rw (add-one, take-suc bytes i 0 inside, with_bytes-append held (take i bytes) (get_or bytes i 0 ∷ []), q, p)

-- Numbers, each after a space

pub spaced-last : (rest : List ℕ) (v : ℕ) → spaced (rest ++ (v ∷ [])) ≡ spaced rest ++ ((32 ∷ []) ++ decimal_text v)
unfolding spaced
spaced-last [] v = ap (λ (l : List ℕ). 32 ∷ l) (append-nil (decimal_text v))
spaced-last (w ∷ rest) v =
    ap (λ (l : List ℕ). 32 ∷ l) (ap (λ (l : List ℕ). decimal_text w ++ l) (spaced-last rest v) ∙ sym (append_assoc (decimal_text w) (spaced rest) ((32 ∷ []) ++ decimal_text v)))

-- one more number
pub with_bytes-spaced-next :
    (held before space after rest : List ℕ) (i : ℕ) → i < length rest → before ≡ with_bytes held (spaced (take i rest)) → space ≡ with_byte before 32 →
    after ≡ with_bytes space (decimal_text (get_or rest i 0)) → after ≡ with_bytes held (spaced (take (i + 1) rest))
unfolding with_bytes
with_bytes-spaced-next held before space after rest i inside p q r =
    let text = decimal_text (get_or rest i 0) in
    rw (add-one, take-suc rest i 0 inside, spaced-last (take i rest) (get_or rest i 0), with_bytes-append held (spaced (take i rest)) ((32 ∷ []) ++ text), r, q, p)

length-spaced_part :
    (rest : List ℕ) (i : ℕ) → i < length rest →
    length (spaced (take i rest)) + (1 + length (decimal_text (get_or rest i 0))) ≤ length (spaced rest)
unfolding spaced
length-spaced_part [] i inside = absurd (omega arith)
length-spaced_part (v ∷ rest) zero inside = omega (arith, length-append (decimal_text v) (spaced rest))
length-spaced_part (v ∷ rest) (suc i) inside =
    omega (arith, length-spaced_part rest i (omega arith), length-append (decimal_text v) (spaced rest), length-append (decimal_text v) (spaced (take i rest)))

-- where all the numbers fit, the next one with its space does
pub next_number-fits :
    (held start now : List ℕ) (first : ℕ) (rest : List ℕ) (i : ℕ) → i < length rest → length held + length (fields_text first rest) ≤ 65536 →
    start ≡ with_bytes held (decimal_text first) → now ≡ with_bytes start (spaced (take i rest)) →
    length now + (1 + length (decimal_text (get_or rest i 0))) ≤ 65536
unfolding fields_text
next_number-fits held start now first rest i inside room p q =
    let whole = length-append (decimal_text first) (spaced rest) in
    let part = length-spaced_part rest i inside in
    let begun = length-with_bytes held start (decimal_text first) (omega arith) p in
    let done = length-with_bytes start now (spaced (take i rest)) (omega arith) q in
    omega arith

pub length-with_byte : (held after : List ℕ) (b : ℕ) → length held < 65536 → after ≡ with_byte held b → length after ≡ length held + 1
length-with_byte held after b room e = rw (e, with_byte-room held b room) (length-append held (b ∷ []))
