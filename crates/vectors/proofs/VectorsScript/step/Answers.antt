use Rattle.std.proofs.Common.{arith}
use Rattle.script.specs.Output.{all_put}
use Rattle.script.specs.Steps.{Grows}
use Rattle.script.proofs.Growth.{growth, grows_by, grows_in_step}
use Rattle.vectors.proofs.VectorsScript.step.Goals as goal

-- each command's text is put, and then a newline
pub returns-in_default : goal.returns-in_default
returns-in_default g c = grows_in_step _ _ _ _ _ (grows_by _ _ _ c.in_ok-put_bytes-in_default.ensures.written) c.put.ensures.written

pub returns : goal.returns
returns g c =
    let put : Grows (all_put g.W.Write.contents c.args.out.now) (all_put g.W.Write.contents c.match-character.out) = grind (arith, growth) in
    grows_in_step _ _ _ _ _ put c.put-2.ensures.written
