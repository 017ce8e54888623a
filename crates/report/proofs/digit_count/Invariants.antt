use Prim.Native.Nat.{◌+◌, ◌-◌, ◌^◌, ◌≤◌, ◌<◌}
use mathlib.Core.Path.{◌≡◌}
use Rattle.report.specs.Text.{count_up_to, digit_count}
use Rattle.report.proofs.digit_count.Given as goal

abbrev pub invariant-loop-left : goal.invariant-loop-left
invariant-loop-left l = (1 ≤ l.n) × (l.n ≤ 20) × (l.left < 10 ^ (20 - l.n + 1)) × (digit_count l.value + 1 ≡ l.n + count_up_to (20 - l.n) l.left)

abbrev pub decreases-loop-left : goal.decreases-loop-left
decreases-loop-left l = l.left
