-- Four octets as one number, the first the lowest: what one load of a little-endian machine reads.
use Rattle.std.specs.Prelude.{ℕ, ◌+◌, ◌*◌, ◌/◌, ◌%◌, ◌<◌, List, [], ◌∷◌, get_or}

-- the number in the four octets of l from at on
abbrev pub little_endian : List ℕ → ℕ → ℕ
little_endian l at = get_or l at 0 + get_or l (at + 1) 0 * 256 + get_or l (at + 2) 0 * 65536 + get_or l (at + 3) 0 * 16777216

-- and each of them is an octet
abbrev pub FourOctets : List ℕ → ℕ → Type 0
FourOctets l at = (get_or l at 0 < 256) × (get_or l (at + 1) 0 < 256) × (get_or l (at + 2) 0 < 256) × (get_or l (at + 3) 0 < 256)

-- the octets of a word below 2^32, its lowest first
abbrev pub little_octets : ℕ → List ℕ
little_octets w = w % 256 ∷ w / 256 % 256 ∷ w / 256 / 256 % 256 ∷ w / 256 / 256 / 256 ∷ []
