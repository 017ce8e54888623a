-- Laws of positional notation, for every base and width.
use Prim.Native.Nat.{ℕ, zero, suc, ◌+◌, ◌*◌, ◌/◌, ◌%◌, ◌^◌, ◌≤◌, ◌<◌}
use mathlib.Core.Path.{◌≡◌, refl, sym, ◌∙◌}
use mathlib.Core.List.{List, [], ◌∷◌, ◌++◌, map, map-append, append_assoc, append-nil}
use native.Mathlib.Omega.{arith}
use native.Mathlib.Numerals.{add-one}
use native.Mathlib.Nat.{div-add-mod', div-lt_iff_lt-mul, pow-zero, pow-suc, add-zero, add-suc, add-mul, one-mul, mul-le-mul_right, add_assoc, mul_assoc, div-eq_of_lt, mod-eq_of_lt, mul-add-div_right, mul-add-mod_self_right}
use lib.ListN.{length, get_or, take, drop, length-append, length-drop, get_or-append}
use lib.Seq.{take-suc, get_or_at, get_or-drop}
use Rattle.octets.specs.Digits.{tabulate, number, digits}

-- Tabulation

pub length-tabulate : (f : ℕ → ℕ) (n : ℕ) → length (tabulate f n) ≡ n
unfolding tabulate
length-tabulate f zero = refl
length-tabulate f (suc n) = length-append (tabulate f n) (f n ∷ []) ∙ rw (length-tabulate f n, add-one)

pub tabulate-cong : (f g : ℕ → ℕ) (n : ℕ) → ((i : ℕ) → i < n → f i ≡ g i) → tabulate f n ≡ tabulate g n
unfolding tabulate
tabulate-cong f g zero same = refl
tabulate-cong f g (suc n) same =
    rw (tabulate-cong f g n (λ i h. same i (omega arith)), same n (omega arith))

pub map-tabulate : (g f : ℕ → ℕ) (n : ℕ) → map g (tabulate f n) ≡ tabulate (λ i. g (f i)) n
unfolding tabulate
map-tabulate g f zero = refl
map-tabulate g f (suc n) = map-append g (tabulate f n) (f n ∷ []) ∙ rw (map-tabulate g f n)

-- a part of a list, tabulated by its places
pub tabulate-get_or : (l : List ℕ) (at n : ℕ) → at + n ≤ length l → tabulate (λ i. get_or l (at + i) 0) n ≡ take n (drop at l)
unfolding tabulate
tabulate-get_or l at zero h = refl
tabulate-get_or l at (suc n) h =
    rw (tabulate-get_or l at n (omega arith), ← get_or-drop at l n 0)
    (sym (take-suc (drop at l) n 0 (simp length-drop (omega arith))))

-- Numbers and digits

pub length_digits : (base n v : ℕ) → length (digits base n v) ≡ n
unfolding digits
length_digits base zero v = refl
length_digits base (suc n) v =
    length-append (digits base n (v / base)) (v % base ∷ []) ∙ rw (length_digits base n (v / base), add-one)

pub number-cong : (base : ℕ) (f g : ℕ → ℕ) (n : ℕ) → ((i : ℕ) → i < n → f i ≡ g i) → number base f n ≡ number base g n
unfolding number
number-cong base f g zero same = refl
number-cong base f g (suc n) same =
    rw (number-cong base f g n (λ i h. same i (omega arith)), same n (omega arith))

pub number<base^n : (base : ℕ) (f : ℕ → ℕ) (n : ℕ) → ((i : ℕ) → i < n → f i < base) → number base f n < base ^ n
unfolding number
number<base^n base f zero small = rw pow-zero (omega arith)
number<base^n base f (suc n) small =
    let front : (number base f n + 1) * base ≤ base ^ n * base =
    mul-le-mul_right base (rw add-one (number<base^n base f n (λ i h. small i (omega arith)))) in
    rw pow-suc (omega (arith, small n (omega arith), rw (add-mul, one-mul) at front))

-- the digits of a number stand for it
pub number_digits : (base n v : ℕ) → 0 < base → v < base ^ n → number base (λ i. get_or (digits base n v) i 0) n ≡ v
unfolding number digits
number_digits base zero v pos h = omega (arith, rw pow-zero at h)
number_digits base (suc n) v pos h =
    let front : List ℕ = digits base n (v / base) in
    let here : get_or (digits base n (v / base) ++ (v % base ∷ [])) n 0 ≡ v % base =
    get_or_at (digits base n (v / base)) (v % base) [] 0 n (length_digits base n (v / base)) in
    let rest : number base (λ i. get_or (digits base n (v / base) ++ (v % base ∷ [])) i 0) n ≡ v / base =
    number-cong base (λ i. get_or (digits base n (v / base) ++ (v % base ∷ [])) i 0) (λ i. get_or (digits base n (v / base)) i 0) n
    (λ i h. get_or-append (digits base n (v / base)) (v % base ∷ []) 0 i (rw (length_digits base n (v / base)) h))
    ∙ number_digits base n (v / base) pos ((div-lt_iff_lt-mul pos).1 (rw pow-suc at h)) in
    rw (rest, here) (div-add-mod' v base)

-- and the digits of the number that digits stand for are these
pub digits_number :
    (base : ℕ) (f : ℕ → ℕ) (n : ℕ) → 0 < base → ((i : ℕ) → i < n → f i < base) →
    digits base n (number base f n) ≡ tabulate f n
unfolding number digits tabulate
digits_number base f zero pos small = refl
digits_number base f (suc n) pos small =
    rw (
      mul-add-div_right pos (number base f n) (f n),
      div-eq_of_lt (small n (omega arith)),
      add-zero,
      mul-add-mod_self_right (number base f n) base (f n),
      mod-eq_of_lt (small n (omega arith)),
      digits_number base f n pos (λ i h. small i (omega arith)),
    )

-- Two runs of digits, one after the other

pub number-add : (base : ℕ) (f : ℕ → ℕ) (m n : ℕ) → number base f (m + n) ≡ number base f m * base ^ n + number base (λ i. f (m + i)) n
unfolding number
number-add base f m zero = rw (add-zero, pow-zero) (omega arith)
number-add base f m (suc n) =
    rw (add-suc, number-add base f m n, pow-suc, add-mul, mul_assoc)
    (add_assoc (number base f m * (base ^ n * base)) (number base (λ i. f (m + i)) n * base) (f (m + n)))

pub digits-add : (base m n h l : ℕ) → 0 < base → l < base ^ n → digits base (m + n) (h * base ^ n + l) ≡ digits base m h ++ digits base n l
unfolding digits
digits-add base m zero h l pos small =
    let none : l ≡ 0 = omega (arith, rw pow-zero at small) in
    let whole : h * 1 + 0 ≡ h = omega arith in
    rw (none, pow-zero, add-zero, whole) (sym (append-nil (digits base m h)))
digits-add base m (suc n) h l pos small =
    rw (
      add-suc,
      pow-suc,
      ← mul_assoc,
      mul-add-div_right pos (h * base ^ n) l,
      mul-add-mod_self_right (h * base ^ n) base l,
      digits-add base m n h (l / base) pos ((div-lt_iff_lt-mul pos).1 (rw pow-suc at small)),
    )
    (append_assoc (digits base m h) (digits base n (l / base)) (l % base ∷ []))
