use Rattle.std.proofs.Common.{◌≡◌, ℕ, ◌+◌, refl, Option, Some, ◌-◌, ◌^◌, ◌<◌, List, [], ◌∷◌, ◌++◌, length, subst, IfSome, arith}
use Rattle.std.proofs.lemmas.Grind.{common_steps}
use Rattle.std.specs.Io.KnownBytes.{Appends}
use Rattle.arrayvec.specs.ArrayVec.{ArrayVec}
use Rattle.script.specs.Lines.{AreLines, TakesLine}
use Rattle.script.specs.Steps.{Runs}
use Rattle.script.specs.Unread.{unread}
use Rattle.script.proofs.Steps.{Runs-none, Runs-next}
use Rattle.script.proofs.Taken.{TakesLines, takes-no_lines, takes-one_more, takes-all, takes-too_many, of-unread}
use Rattle.script.proofs.Written.{Appends-nothing, Appends-then}
use Rattle.script.proofs.run.Goals as goal
use Rattle.script.proofs.run.Goals.{else-loop-test, then-loop-test+in_ok-next_line_into+then-not-branch}

pub loop-init : goal.loop-init
loop-init g c = ([], [], Runs-none g.S.Script.steps _, takes-no_lines _, Appends-nothing _)

-- one more line is taken, and a step on it is done
module _ {S : Type 0} (steps : S → List ℕ → List ℕ → S → Type 0) where
  one_more :
      (a b c : Option (List ℕ)) (u v w : Option (List ℕ)) (from mid to : S) (line : ArrayVec ℕ) (text : List ℕ) (n : ℕ) →
      (before : (lines : List (List ℕ)) × (text : List ℕ) × Runs steps from lines text mid × TakesLines a b lines n × Appends u v text) →
      TakesLine b c (Some line) → (step : (own : List ℕ) × steps mid text own to × Appends v w own) → text ≡ line.items →
      (lines : List (List ℕ)) × (text : List ℕ) × Runs steps from lines text to × TakesLines a c lines (n + 1) × Appends u w text
  one_more a b c u v w from mid to line text n before taken step same = (
    before.0 ++ (text ∷ []),
    before.1 ++ step.0,
    Runs-next steps from mid to before.0 text before.1 step.0 before.2 step.1,
    takes-one_more a b c before.0 _ line text n refl same before.3 taken,
    Appends-then u v w before.1 step.0 before.4 step.2,
  )

pub loop-preserved : goal.loop-preserved
loop-preserved g c =
    let found = c.in_ok-next_line_into.ensures.taken.0 (grind arith) in
    one_more g.S.Script.steps _ _ _ _ _ _ _ _ _ _ _ _ c.loop.invariant found c.in_ok-step.ensures (grind (arith, common_steps))

pub returns : goal.returns
returns g c =
    let before = c.loop.invariant in
    let P : List ℕ → Type 0 = λ input. length input < 2 ^ 64 - 1 → AreLines input before.0 in
    let made = c.new-lines.ensures in
    let all : IfSome (unread g.R.Read.remaining c.new-lines.result) P =
    elim c.loop-test.branch [
      | else-loop-test w ↦ takes-too_many _ _ before.0 _ before.3 (omega arith)
      | then-loop-test+in_ok-next_line_into+then-not-branch w ↦ takes-all _ _ _ before.0 _ _ refl before.3 (w.in_ok-next_line_into.ensures.taken.1 (grind arith))
    ] in
    let known = subst (λ r. IfSome (g.R.Read.remaining r) P) made.0 (of-unread _ c.new-lines.result.piece _ _ P made.1 made.2 all) in
    grind (arith, common_steps)
