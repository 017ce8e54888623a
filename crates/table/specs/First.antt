-- What a search by a test of the code gives.
use Rattle.std.specs.Prelude.{ℕ, ◌<◌, ◌≡◌, Bool, true, false, Option, Some}

-- of n places the first that passes: the test gave true there, and false at each place before it, at all places if none is given
pub record IsFirstPlace (gives : ℕ → Bool → Type 0) (n : ℕ) (r : Option ℕ) : Type 0 where
  pub passes : (p : ℕ) → r ≡ Some p → (p < n) × gives p true
  pub none_before : (q : ℕ) → q < n → ((p : ℕ) → r ≡ Some p → q < p) → gives q false
