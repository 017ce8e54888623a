-- Laws of the printed text: a number has at most 20 digits, no leading zero, and the digits stand for it.
use Prim.Native.Nat.{ℕ, zero, suc, ◌+◌, ◌-◌, ◌*◌, ◌/◌, ◌%◌, ◌^◌, ◌≤◌, ◌<◌}
use mathlib.Core.Path.{◌≡◌, refl, ◌∙◌}
use mathlib.Core.Logic.{⊎_elim}
use mathlib.Core.List.{List, [], ◌∷◌, ◌++◌, map, append_assoc}
use native.Mathlib.Omega.{arith}
use native.Mathlib.Nat.{pow-suc, div-lt_iff_lt-mul}
use Rattle.std.proofs.Common.{Option}
use lib.ListN.{length, get_or, length-append, get_or-map, get_or-append}
use lib.Seq.{get_or_at}
use Rattle.choice.specs.Choice.{◌<ᵇ◌}
use Rattle.choice.proofs.Choice.{when-cases, when-<, when-<-not}
use Rattle.choice.proofs.Tests.{lt-or-ge}
use Rattle.octets.specs.Digits.{number, digits}
use Rattle.octets.specs.Overwrite.{overwrite}
use Rattle.octets.proofs.Digits.{number-cong, number_digits}
use Rattle.octets.proofs.Overwrite.{overwrite-join}
use Rattle.octets.proofs.Text.{length-map-digits, map-digits-suc}
use Rattle.report.specs.Text.{count_up_to, digit_count, decimal_digits, decimal_text, shown_text, result_text, total_text}

-- How many digits

pub count_up_to-one : (k v : ℕ) → v < 10 → count_up_to k v ≡ 1
unfolding count_up_to
count_up_to-one zero v small = refl
count_up_to-one (suc k) v small = when-< _ _ small

pub count_up_to-more :
    (k v : ℕ) → 10 ≤ v → v < 10 ^ (k + 1) →
    (1 ≤ k) × (v / 10 < 10 ^ (k - 1 + 1)) × (count_up_to k v ≡ 1 + count_up_to (k - 1) (v / 10))
unfolding count_up_to
count_up_to-more zero v large fits = absurd (omega arith)
count_up_to-more (suc k) v large fits =
    let e : suc k + 1 ≡ suc (k + 1) = omega arith in
    let less : v < 10 ^ (k + 1) * 10 = rw (e, pow-suc) at fits in
    let e' : suc k - 1 ≡ k = omega arith in
    (omega arith, rw e' ((div-lt_iff_lt-mul {k = 10} (omega arith)).1 less), rw e' (when-<-not _ _ large ∙ omega arith))

pub count_up_to-bounds : (k v : ℕ) → (1 ≤ count_up_to k v) × (count_up_to k v ≤ k + 1)
unfolding count_up_to
count_up_to-bounds zero v = (omega arith, omega arith)
count_up_to-bounds (suc k) v =
    let rest = count_up_to-bounds k (v / 10) in
    ⊎_elim
    (λ (small : v < 10). let e = count_up_to-one (suc k) v small in (omega arith, omega arith))
    (λ (large : 10 ≤ v). rw (when-<-not {a = v} {b = 10} 1 (suc (count_up_to k (v / 10))) large) (omega arith, omega arith))
    (lt-or-ge v 10)

-- the number is below that power of ten
pub below-count_up_to : (k v : ℕ) → v < 10 ^ (k + 1) → v < 10 ^ count_up_to k v
below-count_up_to zero v fits = rw (count_up_to-one zero v (omega arith)) (omega arith)
below-count_up_to (suc k) v fits =
    ⊎_elim
    (λ (small : v < 10). rw (count_up_to-one (suc k) v small) (omega arith))
    (λ (large : 10 ≤ v).
    let m = count_up_to-more (suc k) v large fits in
    let e : suc k - 1 ≡ k = omega arith in
    let f : 1 + count_up_to k (v / 10) ≡ suc (count_up_to k (v / 10)) = omega arith in
    rw (m.2, e, f, pow-suc) ((div-lt_iff_lt-mul {k = 10} (omega arith)).0 (below-count_up_to k (v / 10) (rw e at m.1))))
    (lt-or-ge v 10)

-- and a number below a power of ten has no more digits than that power says
pub count_up_to≤ : (n k v : ℕ) → v < 10 ^ suc n → count_up_to k v ≤ suc n
unfolding count_up_to
count_up_to≤ zero k v below = omega (arith, count_up_to-one k v (omega arith))
count_up_to≤ (suc n) zero v below = omega arith
count_up_to≤ (suc n) (suc k) v below =
    when-cases (λ c. c ≤ suc (suc n)) (v <ᵇ 10) 1 (suc (count_up_to k (v / 10))) (λ _. omega arith)
    (λ _. omega (arith, count_up_to≤ n k (v / 10) ((div-lt_iff_lt-mul {k = 10} (omega arith)).1 (rw pow-suc at below))))

pub digit_count≤20 : (v : ℕ) → digit_count v ≤ 20
unfolding digit_count
digit_count≤20 v = (count_up_to-bounds 19 v).1

pub below-digit_count : (v : ℕ) → v < 10 ^ 20 → v < 10 ^ digit_count v
unfolding digit_count
below-digit_count v fits = below-count_up_to 19 v fits

-- Digits as characters

pub length-decimal_digits : (n v : ℕ) → length (decimal_digits n v) ≡ n
unfolding decimal_digits
length-decimal_digits = length-map-digits (λ d. 48 + d) 10

pub decimal_digits-suc : (n v : ℕ) → decimal_digits (suc n) v ≡ decimal_digits n (v / 10) ++ ((48 + v % 10) ∷ [])
unfolding decimal_digits
decimal_digits-suc = map-digits-suc (λ d. 48 + d) 10

pub length-decimal_text : (v : ℕ) → length (decimal_text v) ≡ digit_count v
unfolding decimal_text
length-decimal_text v = length-decimal_digits (digit_count v) v

pub length-decimal_text≤20 : (v : ℕ) → length (decimal_text v) ≤ 20
length-decimal_text≤20 v = rw (length-decimal_text v) (digit_count≤20 v)

pub length-decimal_text≤ : (n v : ℕ) → v < 10 ^ suc n → length (decimal_text v) ≤ suc n
unfolding digit_count
length-decimal_text≤ n v below = rw (length-decimal_text v) (count_up_to≤ n 19 v below)

-- the number that the characters stand for is the one that was written
pub number-decimal_text : (v : ℕ) → v < 10 ^ 20 → number 10 (λ i. get_or (decimal_text v) i 48 - 48) (length (decimal_text v)) ≡ v
unfolding decimal_text decimal_digits
number-decimal_text v fits =
    let n = digit_count v in
    rw (length-map-digits (λ d. 48 + d) 10 n v)
    (number-cong 10 (λ i. get_or (map (λ d. 48 + d) (digits 10 n v)) i 48 - 48) (λ i. get_or (digits 10 n v) i 0) n
    (λ i h. let e : get_or (map (λ d. 48 + d) (digits 10 n v)) i 48 ≡ 48 + get_or (digits 10 n v) i 0 = get_or-map (λ d. 48 + d) (digits 10 n v) i 0 in omega arith)
    ∙ number_digits 10 n v (omega arith) (below-digit_count v fits))

-- Each character is a digit, and the first is no 0 but that of 0 itself

pub decimal_digits-one : (v : ℕ) → v < 10 → decimal_digits 1 v ≡ (48 + v) ∷ []
unfolding decimal_digits digits
decimal_digits-one v small = let e : v % 10 ≡ v = omega arith in rw e

decimal_digits-digit : (n v i : ℕ) → i < n → (48 ≤ get_or (decimal_digits n v) i 48) × (get_or (decimal_digits n v) i 48 ≤ 57)
decimal_digits-digit zero v i inside = absurd (omega arith)
decimal_digits-digit (suc n) v i inside =
    let size = length-decimal_digits n (v / 10) in
    rw (decimal_digits-suc n v)
    (⊎_elim
    (λ (h : i < n).
    rw (get_or-append (decimal_digits n (v / 10)) ((48 + v % 10) ∷ []) 48 i (omega arith)) (decimal_digits-digit n (v / 10) i h))
    (λ (h : n ≤ i).
    let e : get_or (decimal_digits n (v / 10) ++ ((48 + v % 10) ∷ [])) i 48 ≡ 48 + v % 10 =
    get_or_at (decimal_digits n (v / 10)) (48 + v % 10) [] 48 i (omega arith) in
    rw e (omega arith, omega arith))
    (lt-or-ge i n))

pub decimal_text-digit : (v i : ℕ) → i < length (decimal_text v) → (48 ≤ get_or (decimal_text v) i 48) × (get_or (decimal_text v) i 48 ≤ 57)
unfolding decimal_text
decimal_text-digit v i inside = decimal_digits-digit (digit_count v) v i (rw (length-decimal_text v) at inside)

first-count_up_to : (k v : ℕ) → 1 ≤ v → v < 10 ^ (k + 1) → 49 ≤ get_or (decimal_digits (count_up_to k v) v) 0 48
first-count_up_to zero v some fits =
    let small : v < 10 = omega arith in rw (count_up_to-one zero v small, decimal_digits-one v small) (omega arith)
first-count_up_to (suc k) v some fits =
    ⊎_elim
    (λ (small : v < 10). rw (count_up_to-one (suc k) v small, decimal_digits-one v small) (omega arith))
    (λ (large : 10 ≤ v).
    let m = count_up_to-more (suc k) v large fits in
    let e : suc k - 1 ≡ k = omega arith in
    let n = count_up_to k (v / 10) in
    let f : 1 + n ≡ suc n = omega arith in
    let size = length-decimal_digits n (v / 10) in
    rw (m.2, e, f, decimal_digits-suc n v, get_or-append (decimal_digits n (v / 10)) ((48 + v % 10) ∷ []) 48 0 (omega (arith, (count_up_to-bounds k (v / 10)).0)))
    (first-count_up_to k (v / 10) (omega arith) (rw e at m.1)))
    (lt-or-ge v 10)

pub decimal_text-no-leading-zero : (v : ℕ) → 1 ≤ v → v < 10 ^ 20 → 49 ≤ get_or (decimal_text v) 0 48
unfolding decimal_text digit_count
decimal_text-no-leading-zero v some fits = first-count_up_to 19 v some fits

-- Texts one after the other

-- a text written where another ends makes the two one text
pub written_then :
    (l m out : List ℕ) (at k r : ℕ) (xs ys : List ℕ) → k ≤ length l → (k ≡ at + length xs) × (m ≡ overwrite l at xs) →
    (r ≡ k + length ys) × (out ≡ overwrite m k ys) →
    (r ≡ at + length (xs ++ ys)) × (out ≡ overwrite l at (xs ++ ys))
written_then l m out at k r xs ys fits first second = (
  simp length-append (omega (arith, first.0, second.0)),
  second.1 ∙ rw (first.1, first.0) (overwrite-join l at (length xs) xs ys refl (omega (arith, first.0))),
)

pub written_as :
    (l out : List ℕ) (at r : ℕ) (xs ys : List ℕ) → xs ≡ ys → (r ≡ at + length xs) × (out ≡ overwrite l at xs) →
    (r ≡ at + length ys) × (out ≡ overwrite l at ys)
written_as l out at r xs ys e h = rw (← e) h

pub append-4 : (p q r s : List ℕ) → ((p ++ q) ++ r) ++ s ≡ p ++ (q ++ (r ++ s))
append-4 p q r s = simp append_assoc

pub append-5 : (p q r s t : List ℕ) → (((p ++ q) ++ r) ++ s) ++ t ≡ p ++ (q ++ (r ++ (s ++ t)))
append-5 p q r s t = simp append_assoc

-- the room that a line takes
pub length-result_text :
    (answer : ℕ) (shown : Option ℕ) →
    length (result_text answer shown) ≡ length (decimal_text answer) + length (shown_text shown) + 2
unfolding result_text
length-result_text answer shown = simp length-append (omega arith)

pub length-total_text : (passed lines : ℕ) → length (total_text passed lines) ≡ length (decimal_text passed) + length (decimal_text lines) + 12
unfolding total_text
length-total_text passed lines = simp length-append (omega arith)

pub length-total_text≤52 : (passed lines : ℕ) → length (total_text passed lines) ≤ 52
length-total_text≤52 passed lines =
    omega (arith, length-total_text passed lines, length-decimal_text≤20 passed, length-decimal_text≤20 lines)
