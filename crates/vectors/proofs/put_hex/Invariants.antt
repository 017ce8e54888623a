use Rattle.script.specs.Output.{all_put}
use Rattle.script.specs.Steps.{Grows}
use Rattle.vectors.proofs.put_hex.Given as goal

-- only text was put
abbrev pub invariant-loop-b : goal.invariant-loop-b
invariant-loop-b g l = Grows (all_put g.W.Write.contents l.initial.out) (all_put g.W.Write.contents l.out)
