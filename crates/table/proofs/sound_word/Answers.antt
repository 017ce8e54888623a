-- The last arm is reached below 1 and above 3.
use Prim.Native.Nat.{ℕ, ◌+◌, ◌*◌, ◌/◌, ◌%◌}
use mathlib.Core.Path.{sym}
use native.Mathlib.Omega.{arith}
use Rattle.table.proofs.Words.{marks-of-1-to-3, marks-in-4, marks-in-5, marks-in-6, SoundWord, usual, four-1, four-2, five, six-0, six-1, six-2, six-3, marks-of-no-other, word-without-side}
use Rattle.table.proofs.sound_word.Goals as goal
use Rattle.table.proofs.sound_word.Goals.{in_default-via-then-k-lt1, in_default-via-else-k-lt1+else-k-lt4}

pub returns-in-1-to-3 : goal.returns-in-1-to-3
returns-in-1-to-3 c = sym (marks-of-1-to-3 _ _ _ _ _ (word-without-side _) (omega arith) (omega arith) (omega arith) (omega arith) (omega arith))

pub returns-in-65540 : goal.returns-in-65540
returns-in-65540 c = sym (marks-in-4 _ _ _ _ (omega arith) (omega arith) (omega arith) (omega arith) (omega arith))

pub returns-in-131076 : goal.returns-in-131076
returns-in-131076 c = sym (marks-in-4 _ _ _ _ (omega arith) (omega arith) (omega arith) (omega arith) (omega arith))

pub returns-in-196613 : goal.returns-in-196613
returns-in-196613 c = sym (marks-in-5 _ _ _ _ (omega arith) (omega arith) (omega arith) (omega arith))

pub returns-in-6 : goal.returns-in-6
returns-in-6 c = sym (marks-in-6 _ _ _ _ (omega arith) (omega arith) (omega arith) (omega arith))

pub returns-in-65542 : goal.returns-in-65542
returns-in-65542 c = sym (marks-in-6 _ _ _ _ (omega arith) (omega arith) (omega arith) (omega arith))

pub returns-in-131078 : goal.returns-in-131078
returns-in-131078 c = sym (marks-in-6 _ _ _ _ (omega arith) (omega arith) (omega arith) (omega arith))

pub returns-in-196614 : goal.returns-in-196614
returns-in-196614 c = sym (marks-in-6 _ _ _ _ (omega arith) (omega arith) (omega arith) (omega arith))

pub returns-in_default-k : goal.returns-in_default-k
returns-in_default-k c = sym (marks-of-no-other _ _ _ _ _ (word-without-side _) (λ k. unknown k))
  where
    w : ℕ
    w = c.args.w

    unknown : SoundWord (w % 256 + w / 512 * 512) → ⊥
    unknown (usual low high) =
        elim c.in_default.branch [ in_default-via-then-k-lt1 w ↦ omega arith | in_default-via-else-k-lt1+else-k-lt4 w ↦ omega arith ]
    unknown (four-1 e) = omega arith
    unknown (four-2 e) = omega arith
    unknown (five e) = omega arith
    unknown (six-0 e) = omega arith
    unknown (six-1 e) = omega arith
    unknown (six-2 e) = omega arith
    unknown (six-3 e) = omega arith
