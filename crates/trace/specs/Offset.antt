-- What the offset of refusal 22 speaks of (document 01, "Trace lines"): the bytes that some legal line begins with.
use Rattle.std.specs.Prelude.{ℕ, ◌+◌, ◌≤◌, ◌<◌, ◌≡◌, ◌↔◌, List, length, take, Err}
use Rattle.trace.specs.Line.{LegalLine}
use Rattle.trace.specs.Read.{first_illegal, read_line}
use Rattle.trace.specs.declared.ReadLineError.TheVariants.{Malformed}

-- a legal line begins with p
pub record Begins (p : List ℕ) : Type 0 where
  pub line : List ℕ
  pub n : ℕ
  pub legal : LegalLine line n
  pub begin : take (length p) line ≡ p

-- the offset of 22 is that of the first byte that no legal line has there after the bytes before it: some legal line begins with the
-- bytes before it, and none with these and the byte at it
abbrev pub PossibleBefore : Type 0
PossibleBefore = (l : List ℕ) → length l ≤ 4111 → Begins (take (first_illegal l) l)

abbrev pub ImpossibleAt : Type 0
ImpossibleAt = (l : List ℕ) → first_illegal l < length l → Begins (take (first_illegal l + 1) l) → ⊥

-- a line that is not too long is refused by 22, with this offset, where it is not legal and only there
abbrev pub RefusedBy22 : Type 0
RefusedBy22 = (l : List ℕ) (room : ℕ) → length l ≤ 4111 → ((n : ℕ) → LegalLine l n → ⊥) ↔ (read_line l room ≡ Err (Malformed (first_illegal l)))
