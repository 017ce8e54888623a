-- Past the last test the line fits.
use Prim.Native.Nat.{ℕ}
use mathlib.Core.Path.{◌≡◌, sym, ap, ◌∙◌}
use mathlib.Core.List.{List}
use native.Mathlib.Omega.{arith}
use Rattle.std.proofs.Common.{Result}
use Rattle.std.proofs.Common.{Result}
use lib.ListN.{length}
use Rattle.trace.specs.Write.{write_line, line_after, line_after_writing, write_answer, writing}
use Rattle.trace.specs.declared.WriteLineError.{WriteLineError}
use Rattle.octets.proofs.Overwrite.{part≡overwrite}
use Rattle.trace.specs.Line.{line_of}
use Rattle.trace.proofs.Line.{length-line_of}
use Rattle.trace.proofs.Write.{write_line-written}
use Rattle.trace.proofs.write_line.Goals as goal

-- the bytes by what is written and the output alone, and document 01's numbers
told :
    (side clock : ℕ) (packet line : List ℕ) {r : Result ℕ WriteLineError} {after : List ℕ} →
    (r ≡ write_line side clock (length packet) (length line)) × (after ≡ line_after r side clock packet line) →
    (r ≡ write_line side clock (length packet) (length line)) × (after ≡ line_after_writing side clock packet line) × (write_answer r ≡ writing side clock packet line)
told side clock packet line p = (p.0, p.1 ∙ ap (λ r. line_after r side clock packet line) p.0, ap write_answer p.0)

pub returns : goal.returns
unfolding line_after
returns c =
    let a = c.args in told a.side a.clock a.packet.now a.line.now (
      sym (write_line-written a.side a.clock (length a.packet.now) (length a.line.now) (omega arith) (omega arith) (omega arith) (omega arith) (omega arith)),
      rw c.write_fields.ensures (part≡overwrite a.line.now 0 _ (line_of a.side a.clock a.packet.now) (length-line_of a.side a.clock a.packet.now)),
    )
