use Rattle.std.proofs.Common.{ℕ, List}
use Rattle.std.specs.Io.KnownBytes.{Appends}
use Rattle.script.specs.Output.{all_put}
use Rattle.script.specs.Unread.{unread}
use Rattle.script.specs.Steps.{Runs}
use Rattle.script.proofs.Taken.{TakesLines}
use Rattle.script.proofs.run.Given as goal

-- the steps on the lines so far put this text
abbrev pub invariant-loop : goal.invariant-loop
invariant-loop g l =
    (lines : List (List ℕ)) × (text : List ℕ)
    × Runs g.S.Script.steps l.initial.state lines text l.state
    × TakesLines (unread g.R.Read.remaining l.initial.lines) (unread g.R.Read.remaining l.lines) lines l.counter
    × Appends (all_put g.W.Write.contents l.initial.out) (all_put g.W.Write.contents l.out) text
