-- Laws of a search over places, for every test: how a loop that is at place i of n goes on, and what its end says of each place.
use Prim.Native.Nat.{ℕ, zero, suc, ◌+◌, ◌-◌, ◌≤◌, ◌<◌}
use mathlib.Core.Path.{◌≡◌, refl}
use mathlib.Core.Bool.{Bool, true, false}
use native.Mathlib.Omega.{arith}
use Rattle.std.specs.Prelude.{Some, None}
use Rattle.choice.proofs.Choice.{when-true, when-false, when_cond}
use Rattle.rows.specs.Places.{first_from}

module _ (test : ℕ → Bool) (i n : ℕ) where
  pub first-is-here : i < n → test i ≡ true → first_from test i (n - i) ≡ Some i
  unfolding first_from
  first-is-here h e = let q : n - i ≡ suc (n - (i + 1)) = omega arith in rw q (when-true _ _ _ e)

  pub first-is-further : i < n → test i ≡ false → first_from test i (n - i) ≡ first_from test (i + 1) (n - (i + 1))
  unfolding first_from
  first-is-further h e = let q : n - i ≡ suc (n - (i + 1)) = omega arith in rw q (when-false _ _ _ e)

  pub first-is-nothing : n ≤ i → first_from test i (n - i) ≡ None
  unfolding first_from
  first-is-nothing h = let q : n - i ≡ 0 = omega arith in rw q

-- What they say of each place

-- a place found is one of them and passes
pub found-passes : (test : ℕ → Bool) (k i j : ℕ) → first_from test i k ≡ Some j → (test j ≡ true) × (i ≤ j) × (j < i + k)
unfolding first_from
found-passes test zero i j e = cc
found-passes test (suc k) i j e = let cases = simp when_cond at e in grind (arith, found-passes test k (i + 1) j)

-- and none before it does
pub none-before-found : (test : ℕ → Bool) (k i j : ℕ) → first_from test i k ≡ Some j → (p : ℕ) → i ≤ p → p < j → test p ≡ false
unfolding first_from
none-before-found test zero i j e p low high = cc
none-before-found test (suc k) i j e p low high = let cases = simp when_cond at e in grind (arith, none-before-found test k (i + 1) j)

-- so of all places from 0 up it is the first
pub found-is-first :
    (test : ℕ → Bool) (n p : ℕ) → first_from test 0 n ≡ Some p →
    (test p ≡ true) × ((q : ℕ) → q < p → test q ≡ false)
found-is-first test n p found = ((found-passes test n 0 p found).0, λ q before. none-before-found test n 0 p found q (omega arith) before)

-- a place that passes, where none before it does, is the one found
pub found-by :
    (test : ℕ → Bool) (k i j : ℕ) → i ≤ j → j < i + k → test j ≡ true → ((p : ℕ) → i ≤ p → p < j → test p ≡ false) →
    first_from test i k ≡ Some j
unfolding first_from
found-by test zero i j low high e before = absurd (omega arith)
found-by test (suc k) i j low high e before = simp when_cond (grind (arith, before i, found-by test k (i + 1) j))

-- where nothing is found none passes
pub none-if-nothing : (test : ℕ → Bool) (k i : ℕ) → first_from test i k ≡ None → (p : ℕ) → i ≤ p → p < i + k → test p ≡ false
unfolding first_from
none-if-nothing test zero i e p low high = absurd (omega arith)
none-if-nothing test (suc k) i e p low high = let cases = simp when_cond at e in grind (arith, none-if-nothing test k (i + 1))

-- two tests that agree at each of the places find the same one
pub first-same :
    (test test' : ℕ → Bool) (k i : ℕ) → ((p : ℕ) → i ≤ p → p < i + k → test p ≡ test' p) →
    first_from test i k ≡ first_from test' i k
unfolding first_from
first-same test test' zero i same = refl
first-same test test' (suc k) i same =
    rw (same i (omega arith) (omega arith), first-same test test' k (i + 1) (λ p low high. same p (omega (arith, low)) (omega (arith, high))))
