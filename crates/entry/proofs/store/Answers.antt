-- The four parts are written one after the other, each where the one before it ends.
use Prim.Native.Nat.{ℕ}
use mathlib.Core.Path.{ap, ◌∙◌}
use native.Mathlib.Omega.{arith}
use Rattle.octets.specs.Overwrite.{overwrite}
use Rattle.octets.proofs.Overwrite.{overwrite-both}
use Rattle.entry.specs.Layout.{entry_bytes}
use Rattle.entry.proofs.Sizes.{length-marks_bytes, length-flow_bytes, length-numbers_bytes}
use Rattle.entry.proofs.store.Goals as goal

pub returns : goal.returns
unfolding entry_bytes
returns c =
    let fourth = c in
    let third = fourth in
    let second = third in
    let first = second in
    let o = first in
    let a = o.args in
    let numbers =
    overwrite-both _ _ _ _ third.store_numbers.ensures fourth.store_rest.ensures (length-numbers_bytes _) (omega arith) (omega arith) in
    let tail = overwrite-both _ _ _ _ second.store_flow.ensures numbers (length-flow_bytes _ _) (omega arith) (omega arith) in
    overwrite-both _ _ _ _ first.store_marks.ensures tail (length-marks_bytes _) (omega arith) (omega arith)
    ∙ ap (λ (k : ℕ). overwrite a.table.now k (entry_bytes a.version a.entry)) o.place_at-at.ensures
