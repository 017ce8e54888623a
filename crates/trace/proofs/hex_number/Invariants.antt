use Rattle.std.proofs.Common.{◌≡◌}
use Rattle.trace.specs.Hex.{hex_number}
use Rattle.trace.proofs.hex_number.Given as goal

abbrev pub invariant-loop-b : goal.invariant-loop-b
invariant-loop-b l = l.v ≡ hex_number l.digits 0 l.b-index
