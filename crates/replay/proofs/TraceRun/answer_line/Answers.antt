-- A frame's packet is the line's.
use Rattle.std.proofs.Common.{◌≡◌, ℕ, ◌≤◌, List, Ok, Result as OkOrErr, length, take, sym, ap, ◌∙◌, arith}
use Rattle.trace.specs.Line.{line_packet}
use Rattle.trace.specs.Read.{read_line, packet_after_reading}
use Rattle.trace.specs.declared.Frame.{Frame}
use Rattle.trace.specs.declared.ReadLineError.{ReadLineError}
use Rattle.replay.specs.Printed.{room}
use Rattle.replay.proofs.Answer.{result_of-frame, frame-packet}
use Rattle.replay.proofs.TraceRun.answer_line.Goals as goal

-- the packet has room for every line's, and what the filter is shown is the line's packet
framed :
    (text packet after : List ℕ) (f : Frame) (read : OkOrErr Frame ReadLineError) → length packet ≡ room → read ≡ read_line text (length packet) →
    after ≡ packet_after_reading text packet → read ≡ Ok f →
    (Ok f ≡ read_line text room) × (f.length ≤ room) × (take f.length after ≡ line_packet text)
framed text packet after f read size e left frame =
    let whole : Ok f ≡ read_line text room = sym frame ∙ e ∙ ap (read_line text) size in
    let packet = frame-packet text packet f (sym whole) size in
    (whole, packet.0, rw left packet.1)

pub shared_ref_as_front-filter_ipv4 : goal.shared_ref_as_front-filter_ipv4
shared_ref_as_front-filter_ipv4 c =
    let frame = framed _ c.args.packet.now _ _ _ (omega arith) c.read_kept.ensures.0 c.read_kept.ensures.1 c.in-Ok.is in
    omega (arith, frame.1)

pub returns-in-Ok-clause-answered : goal.returns-in-Ok-clause-answered
returns-in-Ok-clause-answered c =
    let frame = framed _ c.args.packet.now _ _ _ (omega arith) c.read_kept.ensures.0 c.read_kept.ensures.1 c.in-Ok.is in
    result_of-frame _ c.args.self.now.table.now _ _ _ _ _ frame.0 frame.2 (rw c.from-side.ensures at c.filter_ipv4-reply.ensures) c.shown_place.ensures
