-- The first i bytes are the line's.
use Rattle.std.proofs.Common.{◌≡◌, ℕ, ◌+◌, ◌*◌, ◌/◌, ◌-◌, ◌∙◌, sym, ap, length, arith}
use Rattle.octets.specs.Digits.{tabulate}
use Rattle.octets.proofs.Digits.{length-tabulate}
use Rattle.octets.proofs.Overwrite.{overwrite-all, overwrite-nothing, overwrite-tabulate}
use Rattle.trace.specs.Hex.{hex_number}
use Rattle.trace.specs.Line.{packet_length, line_packet}
use Rattle.trace.proofs.Hex.{hex_number-part}
use Rattle.trace.proofs.read_packet.Goals as goal

pub loop-i-init : goal.loop-i-init
unfolding tabulate
loop-i-init c = sym (overwrite-nothing _ 0)

pub loop-i-preserved : goal.loop-i-preserved
loop-i-preserved c =
    let a = c.args in
    let l = c.loop-i in
    let at : ℕ = 15 + 2 * l.i in
    let byte : c.hex_number.result ≡ hex_number a.line.now (15 + 2 * l.i) 2 =
    c.hex_number.ensures.0 ∙ hex_number-part a.line.now at (at + 2 - at) (omega arith) ∙ ap (hex_number a.line.now at) (omega arith) in
    rw (byte, l.invariant) (overwrite-tabulate a.packet.now (λ j. hex_number a.line.now (15 + 2 * j) 2) l.i (omega arith))

pub returns : goal.returns
unfolding packet_length line_packet
returns c =
    let a = c.args in
    let l = c.loop-i in
    let done : l.i ≡ (length a.line.now - 15) / 2 = omega arith in
    rw done at l.invariant ∙ overwrite-all a.packet.now _ (length-tabulate _ _ ∙ omega arith)
