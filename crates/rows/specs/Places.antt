-- A search over places.
use Rattle.std.specs.Prelude.{ℕ, zero, suc, ◌+◌, Bool, Option, Some, None}
use Rattle.choice.specs.Choice.{when◌then◌else◌}

-- the first of the k places from i on that passes a test
unfoldable pub first_from : (ℕ → Bool) → ℕ → ℕ → Option ℕ
first_from test i zero = None
first_from test i (suc k) = when test i then Some i else first_from test (i + 1) k
