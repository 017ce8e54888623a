use Rattle.std.proofs.Common.{◌≡◌, ℕ, ◌<◌, map, length}
use Rattle.octets.specs.Digits.{digits}
use Rattle.octets.specs.Overwrite.{overwrite}
use Rattle.octets.proofs.characters.write_digits.Given as goal

abbrev pub invariant-loop-i : goal.invariant-loop-i
invariant-loop-i g l =
    (char : ℕ → ℕ) → ((d c : ℕ) → d < g.row.BASE → goal.F-post g l.character d c → c ≡ char d) →
    overwrite l.text 0 (map char (digits g.row.BASE l.i l.left)) ≡ map char (digits g.row.BASE (length l.initial.text) l.initial.value)
