use Prim.Native.Nat.{ℕ}
use mathlib.Core.Path.{ap}
use mathlib.Core.List.{List}
use denote.Bor.{Bor}
use native.Mathlib.Omega.{arith}
use lib.ListN.{length-drop}
use Rattle.std.proofs.lemmas.List.{take_rest}
use Rattle.checksum.specs.Groups.{group_sum}
use Rattle.checksum.proofs.Groups.{group_sum-first, group_sum-pair}
use Rattle.checksum.proofs.group_sum.Goals as goal
use Rattle.checksum.proofs.group_sum.Goals.{Joined-rest-lt4, in_default-rest, in-len4-up}

pub loop-rest-preserved : goal.loop-rest-preserved
loop-rest-preserved c =
    let l = c.loop-rest.rest.now in
    simp (take_rest, length-drop) record {
      small = omega arith;
      total = omega (arith, group_sum-pair l);
    }

-- with one group more or none, what is left is the last one
pub returns : goal.returns
returns c =
    let l = c.loop-rest.rest.now in
    elim c.if-rest-lt4.branch [
      | in_default-rest w ↦
          let same = ap (λ (r : Bor (List ℕ)). group_sum r.now) w.rest-is in
          (omega (arith, same), omega arith)
      | in-len4-up w ↦
          let after = simp take_rest at (ap (λ (r : Bor (List ℕ)). group_sum r.now) w.rest-is) in
          (omega (arith, after, group_sum-first l), omega arith)
    ]
