-- What a program does on the lines of a script.
use Rattle.std.specs.Prelude.{◌≡◌, ℕ, List, [], ◌∷◌, ◌++◌}
use Rattle.std.specs.declared.option.Option.{Option}
use Rattle.std.specs.Io.KnownBytes.{Appends}

-- a step on each of these lines in turn puts all of this text
unfoldable pub Runs : {S : Type 0} → (S → List ℕ → List ℕ → S → Type 0) → S → List (List ℕ) → List ℕ → S → Type 0
Runs steps from [] text to = (text ≡ []) × (to ≡ from)
Runs {S} steps from (line ∷ lines) text to =
    (first : List ℕ) × (later : List ℕ) × (mid : S) × steps from line first mid × Runs steps mid lines later to × (text ≡ first ++ later)

-- known bytes grow by some text
unfoldable pub Grows : Option (List ℕ) → Option (List ℕ) → Type 0
Grows old new = (text : List ℕ) × Appends old new text
