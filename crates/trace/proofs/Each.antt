-- What holds of each element of a list, told of its place and its value.
use Prim.Native.Nat.{ℕ, zero, suc, ◌+◌, ◌-◌, ◌≤◌, ◌<◌}
use mathlib.Core.Path.{◌≡◌}
use mathlib.Core.Logic.{⊎_elim}
use mathlib.Core.List.{List, [], ◌∷◌, ◌++◌}
use native.Mathlib.Omega.{arith}
use native.Mathlib.Nat.{add-zero, zero-add, add_assoc}
use lib.ListN.{length, get_or, length-append, get_or-append, get_or-eq_default}
use lib.Seq.{get_or-append-add}
use Rattle.choice.proofs.Tests.{lt-or-ge}
use Rattle.octets.specs.Digits.{tabulate}
use Rattle.octets.proofs.Digits.{length-tabulate}

-- of each element of l, where its first stands at place at
abbrev pub Each : (ℕ → ℕ → Type 0) → ℕ → List ℕ → Type 0
Each P at l = (i : ℕ) → i < length l → P (at + i) (get_or l i 0)

module _ (P : ℕ → ℕ → Type 0) where
  pub each_none : (at : ℕ) → Each P at []
  each_none at i h = absurd (omega arith)

  pub each-one : (at v : ℕ) → P at v → Each P at (v ∷ [])
  each-one at v p i h = let z : i ≡ 0 = omega arith in rw (z, add-zero) p

  each-past :
      (at n : ℕ) (xs ys : List ℕ) → length xs ≡ n → Each P (at + n) ys → (j : ℕ) → j < length ys →
      P (at + (n + j)) (get_or (xs ++ ys) (n + j) 0)
  each-past at n xs ys e back j h =
      rw (← e, get_or-append-add xs ys j 0, ← add_assoc at (length xs) j, e) (back j h)

  pub each_append : (at n : ℕ) (xs ys : List ℕ) → length xs ≡ n → Each P at xs → Each P (at + n) ys → Each P at (xs ++ ys)
  each_append at n xs ys e front back i h =
      let inside : i < length ys + length xs = omega (arith, rw (length-append xs ys) at h) in
      ⊎_elim
      (λ (g : i < length xs). rw (get_or-append xs ys 0 i g) (front i g))
      (λ (g : length xs ≤ i).
      let k : n + (i - n) ≡ i = omega arith in rw k at (each-past at n xs ys e back (i - n) (omega arith)))
      (lt-or-ge i (length xs))

  pub each-tabulate : (f : ℕ → ℕ) (n : ℕ) → ((i : ℕ) → i < n → P i (f i)) → Each P 0 (tabulate f n)
  unfolding tabulate
  each-tabulate f zero p = each_none 0
  each-tabulate f (suc n) p =
      each_append 0 n (tabulate f n) (f n ∷ []) (length-tabulate f n) (each-tabulate f n (λ i h. p i (omega arith)))
      (each-one (0 + n) (f n) (rw zero-add (p n (omega arith))))

-- what holds of each element, and of the 0 past the end, holds at every place
pub each-get_or : (P : ℕ → Type 0) (l : List ℕ) → Each (λ i v. P v) 0 l → P 0 → (i : ℕ) → P (get_or l i 0)
each-get_or P l each none i =
    ⊎_elim (each i) (λ (h : length l ≤ i). rw (get_or-eq_default l 0 h) none) (lt-or-ge i (length l))
