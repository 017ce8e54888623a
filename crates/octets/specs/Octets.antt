-- Lists of octets.
use Rattle.std.specs.Prelude.{ℕ, ◌<◌, List, get_or}

-- every element is below 256, as the type u8 of lent bytes has it
abbrev pub Octets : List ℕ → Type 0
Octets l = (i : ℕ) → get_or l i 0 < 256
