use Rattle.std.proofs.Common.{◌≡◌, ◌+◌, ◌*◌}
use Rattle.octets.specs.Digits.{tabulate}
use Rattle.octets.specs.Overwrite.{overwrite}
use Rattle.trace.specs.Hex.{hex_number}
use Rattle.trace.proofs.read_packet.Given as goal

abbrev pub invariant-loop-i : goal.invariant-loop-i
invariant-loop-i l = l.packet ≡ overwrite l.initial.packet 0 (tabulate (λ j. hex_number l.line (15 + 2 * j) 2) l.i)
