use Rattle.std.proofs.Common.{arith}
use Rattle.script.specs.Output.{all_put}
use Rattle.script.specs.Steps.{Grows}
use Rattle.script.proofs.Growth.{growth, grows_in_step}
use Rattle.bounds.proofs.BoundsScript.step.Goals as goal

-- each command's text is put, and then a newline
pub returns : goal.returns
returns g c =
    let put : Grows (all_put g.W.Write.contents c.args.out.now) (all_put g.W.Write.contents c.match-character.out) = grind (arith, growth) in
    grows_in_step _ _ _ _ _ put c.put.ensures.written
