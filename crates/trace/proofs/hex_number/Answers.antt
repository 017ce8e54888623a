-- v is the number that the first digits stand for.
use Rattle.std.proofs.Common.{◌≡◌, refl, sym, length, arith}
use native.Mathlib.Nat.{zero-add}
use Rattle.trace.specs.Hex.{hex_number}
use Rattle.octets.specs.Digits.{number}
use Rattle.trace.proofs.Hex.{hex_number<16^n, hex_number<2^48, hex_number-suc}
use Rattle.trace.proofs.hex_number.Goals as goal

pub loop-b-init : goal.loop-b-init
unfolding hex_number number
loop-b-init c = refl

pub overflow_mul-v : goal.overflow_mul-v
overflow_mul-v c = omega (arith, hex_number<2^48 c.args.digits.now 0 c.loop-b.b-index (omega arith))

pub overflow_add-v : goal.overflow_add-v
overflow_add-v c = omega (arith, hex_number<2^48 c.args.digits.now 0 c.loop-b.b-index (omega arith))

pub loop-b-preserved : goal.loop-b-preserved
loop-b-preserved c =
    let l = c.loop-b in
    rw (l.invariant, c.from.ensures, c.hex_value.ensures.0) (sym (rw zero-add at (hex_number-suc c.args.digits.now 0 l.b-index)))

pub returns : goal.returns
returns c =
    let l = c.loop-b in
    let done : l.b-index ≡ length c.args.digits.now = omega arith in
    (rw done at l.invariant, rw (l.invariant, done) (hex_number<16^n c.args.digits.now 0 (length c.args.digits.now)))
