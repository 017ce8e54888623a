-- Side, space, clock, space and packet, written one after the other, are the line.
use Rattle.std.proofs.Common.{length-take, length-drop, length-append, length-set, arith}
use Rattle.trace.proofs.Write.{parts-line_of}
use Rattle.trace.proofs.write_fields.Goals as goal

pub returns : goal.returns
returns c =
    let a = c.args in
    parts-line_of a.side a.clock _ _ a.packet.now a.line.now c.write_hex.new.text c.write_packet.new.text c.requires.1 c.write_hex.ensures
    (simp (length-take, length-drop, length-set) (omega arith)) c.write_packet.ensures (simp (length-append, length-take, length-drop, length-set) (omega arith))
