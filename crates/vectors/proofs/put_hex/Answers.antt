use Rattle.script.proofs.Growth.{grows_by, grows_then}
use Rattle.vectors.proofs.put_hex.Goals as goal

pub loop-b-preserved : goal.loop-b-preserved
loop-b-preserved g c =
    grows_then _ _ _ c.loop-b.invariant (grows_by _ _ _ c.in_ok-put_bytes.ensures.written)
