-- What is left to add: the groups of the rest.
use Prim.Native.Nat.{◌+◌, ◌*◌, ◌≤◌}
use mathlib.Core.Path.{◌≡◌}
use lib.ListN.{length}
use Rattle.checksum.specs.Groups.{group_sum}
use Rattle.checksum.proofs.group_sum.Given as goal

-- a group is below 2^32, so at most 2^30 for each octet
abbrev pub invariant-loop-rest : goal.invariant-loop-rest
invariant-loop-rest l = record {
  small : l.sum + 1073741824 * length l.rest ≤ 1073741824 * length l.s;
  total : l.sum + group_sum l.rest ≡ group_sum l.s;
}

abbrev pub decreases-loop-rest : goal.decreases-loop-rest
decreases-loop-rest l = length l.rest
