-- Past the last test the line is legal, and its packet fits.
use Rattle.std.proofs.Common.{ℕ, Ok, length, sym, ap, ◌∙◌, arith}
use Rattle.octets.proofs.Overwrite.{part≡overwrite}
use Rattle.trace.specs.Line.{line_side, line_clock, packet_length, line_packet}
use Rattle.trace.specs.Read.{frame, packet_after, read_answer}
use Rattle.trace.proofs.Hex.{hex_number-part}
use Rattle.trace.proofs.Line.{line_side-legal, length-line_packet}
use Rattle.trace.proofs.Read.{well_formed-true, well_formed-legal, read_line-frame}
use Rattle.trace.proofs.read_line.Goals as goal

pub overflow_sub-side : goal.overflow_sub-side
overflow_sub-side c =
    let l = c.args.line.now in
    let well = well_formed-true l (sym c.first_illegal-offset.ensures ∙ c.if-offset-len.false) (omega arith) (omega arith) in
    (line_side-legal l (packet_length l) (well_formed-legal l (omega arith) well)).0

pub returns : goal.returns
unfolding packet_after packet_length line_side line_clock
returns c =
    let l = c.args.line.now in
    let out = c.args.packet.now in
    let well = well_formed-true l (sym c.first_illegal-offset.ensures ∙ c.if-offset-len.false) (omega arith) (omega arith) in
    let clock = c.hex_number-clock.ensures.0 ∙ hex_number-part l 2 12 (omega arith) in
    let read = ap (λ (k : ℕ). Ok (frame (line_side l) k (packet_length l))) clock ∙ sym (read_line-frame l (length out) (omega arith) well (omega arith)) in (
      read,
      rw c.read_packet.ensures (part≡overwrite out 0 (packet_length l) (line_packet l) (length-line_packet l (packet_length l) (well_formed-legal l (omega arith) well))) ∙ ap (λ r. packet_after r l out) read,
      ap read_answer read,
    )
