-- The digits counted and those of what is left are the digits of the number.
use Prim.Native.Nat.{◌+◌, ◌-◌}
use mathlib.Core.Path.{◌≡◌}
use native.Mathlib.Omega.{arith}
use Rattle.report.specs.Text.{digit_count}
use Rattle.report.proofs.Text.{count_up_to-one, count_up_to-more}
use Rattle.report.proofs.digit_count.Goals as goal

pub loop-left-init : goal.loop-left-init
unfolding digit_count
loop-left-init c = (omega arith, omega arith, omega arith, omega arith)

pub loop-left-preserved : goal.loop-left-preserved
loop-left-preserved c =
    let l = c.loop-left in
    let m = count_up_to-more (20 - l.n) l.left (omega arith) l.invariant.2 in
    let e : 20 - l.n - 1 ≡ 20 - (l.n + 1) = omega arith in
    (omega arith, omega (arith, m.0), rw e at m.1, omega (arith, l.invariant.3, rw e at m.2))

pub returns : goal.returns
returns c =
    let l = c.loop-left in
    let one = count_up_to-one (20 - l.n) l.left (omega arith) in (omega (arith, l.invariant.3, one), omega arith)
