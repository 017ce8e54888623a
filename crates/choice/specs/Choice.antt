-- Decision lists: the first line that applies wins, top to bottom.
use Rattle.std.specs.Prelude.{ℕ, Bool, true, false, not, ltb, leb, eqb}

infix 20 when◌then◌else◌
infix 40 ◌<ᵇ◌ ◌≤ᵇ◌ ◌=ᵇ◌ ◌≠ᵇ◌
-- shut, so that a list of lines stays a list of lines; `when-true` and `when-false` are its whole meaning
unfoldable pub when◌then◌else◌ : {A : Type 0} → Bool → A → A → A
when◌then◌else◌ true a b = a
when◌then◌else◌ false a b = b

abbrev pub ◌<ᵇ◌ : ℕ → ℕ → Bool
◌<ᵇ◌ = ltb

abbrev pub ◌≤ᵇ◌ : ℕ → ℕ → Bool
◌≤ᵇ◌ = leb

abbrev pub ◌=ᵇ◌ : ℕ → ℕ → Bool
◌=ᵇ◌ = eqb

abbrev pub ◌≠ᵇ◌ : ℕ → ℕ → Bool
◌≠ᵇ◌ m n = not (eqb m n)
