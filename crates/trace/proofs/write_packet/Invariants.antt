use Rattle.std.proofs.Common.{◌≡◌, ◌*◌, drop}
use Rattle.octets.specs.Overwrite.{overwrite}
use Rattle.trace.specs.Hex.{hex_pairs}
use Rattle.trace.proofs.write_packet.Given as goal

abbrev pub invariant-loop-i : goal.invariant-loop-i
invariant-loop-i l = overwrite l.text (2 * l.i) (hex_pairs (drop l.i l.packet)) ≡ hex_pairs l.packet
