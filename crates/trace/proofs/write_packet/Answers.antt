-- Writing the pairs from byte i on makes the text that writing all pairs would have made.
use Rattle.std.proofs.Common.{◌≡◌, ◌+◌, ◌*◌, ◌-◌, ◌∙◌, sym, ap, length, get_or, take, drop, arith, length-take, length-drop}
use lib.Seq.{drop-length}
use Rattle.octets.proofs.Overwrite.{overwrite-all, overwrite-nothing, part≡overwrite}
use Rattle.trace.specs.Hex.{hex_digits, hex_pairs}
use Rattle.trace.proofs.Hex.{length-hex_pairs}
use Rattle.trace.proofs.Write.{overwrite-hex_pairs}
use Rattle.trace.proofs.write_packet.Goals as goal

pub loop-i-init : goal.loop-i-init
loop-i-init c = overwrite-all c.args.text.now _ (omega (arith, length-hex_pairs c.args.packet.now))

pub loop-i-preserved : goal.loop-i-preserved
loop-i-preserved c =
    let l = c.loop-i in
    let part = take (2 * l.i + 2 - 2 * l.i) (drop (2 * l.i) l.text) in
    let size : length part ≡ 2 = simp (length-take, length-drop) (omega arith) in
    let pair : c.write_hex.new.text ≡ hex_digits 2 (get_or c.args.packet.now l.i 0) = rw size at c.write_hex.ensures ∙ ap (hex_digits 2) c.from.ensures in
    let whole = part≡overwrite l.text (2 * l.i) (2 * l.i + 2 - 2 * l.i) c.write_hex.new.text (omega arith) in
    rw whole (overwrite-hex_pairs l.text c.args.packet.now l.i c.write_hex.new.text (omega arith) (omega arith) pair ∙ l.invariant)

pub returns : goal.returns
unfolding hex_pairs
returns c =
    let l = c.loop-i in
    let done : l.i ≡ length c.args.packet.now = omega arith in
    sym (overwrite-nothing l.text (2 * l.i)) ∙ rw done (rw (done, drop-length c.args.packet.now) at l.invariant)
