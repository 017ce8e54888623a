use Rattle.std.proofs.Common.{refl, arith}
use Rattle.std.proofs.lemmas.Grind.{common_steps}
use Rattle.script.specs.Output.{with_bytes}
use Rattle.script.proofs.Collected.{with_byte-room, with_bytes-next, length-with_bytes_part}
use Rattle.script.proofs.Written.{Appends-nothing, put-next, held-grows}
use Rattle.script.proofs.Output.put_bytes.Goals as goal
use Rattle.script.proofs.Output.put_bytes.Goals.{then-is_err+in_ok-put, else-is_err}

pub loop-b-init : goal.loop-b-init
unfolding with_bytes
loop-b-init g c = record { held = refl; written = Appends-nothing _ }

pub loop-b-preserved : goal.loop-b-preserved
loop-b-preserved g c =
    let bytes = c.args.bytes.now in
    let l = c.loop-b in
    elim c.if-is_err.branch [
      | then-is_err+in_ok-put w ↦
          let put = w.in_ok-put.ensures in
          let same = c.try_push.ensures.err in
          rw w.self-is (record {
            held = with_bytes-next _ _ _ bytes l.b-index (omega arith) l.invariant.held (grind (arith, common_steps));
            written = put-next _ _ _ bytes l.b-index (omega arith) l.invariant.written (grind (arith, common_steps));
          })
      | else-is_err w ↦
          let held = c.try_push.ensures.ok in
          rw w.self-is (record {
            held = with_bytes-next _ _ _ bytes l.b-index (omega arith) l.invariant.held (grind (arith, common_steps, with_byte-room l.self.held.items));
            written = put-next _ _ _ bytes l.b-index (omega arith) l.invariant.written (held-grows _ _ _ _ (grind (arith, common_steps)));
          })
    ]

pub returns-in_err-put-clause-fits : goal.returns-in_err-put-clause-fits
returns-in_err-put-clause-fits g c = λ room.
    let l = c.loop-b in
    let count = length-with_bytes_part c.args.self.now.held.items l.self.held.items c.args.bytes.now l.b-index (omega arith) room l.invariant.held in
    absurd (grind (arith, common_steps))
