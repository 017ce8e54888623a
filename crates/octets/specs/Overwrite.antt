-- A list with a part written over.
use Rattle.std.specs.Prelude.{ℕ, ◌+◌, List, ◌++◌, length, take, drop}

-- l with vs from at on, and all else as it was
unfoldable pub overwrite : List ℕ → ℕ → List ℕ → List ℕ
overwrite l at vs = take at l ++ (vs ++ drop (at + length vs) l)
