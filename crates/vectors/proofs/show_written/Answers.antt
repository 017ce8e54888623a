use Rattle.script.proofs.Growth.{grows_by, grows_by_end, grows_then}
use Rattle.vectors.proofs.show_written.Goals as goal

pub returns : goal.returns
returns g c =
    grows_by_end _ _ _ _ _ (grows_then _ _ _ (grows_by _ _ _ c.in_ok-put_fields.ensures.written) c.in_ok-put_gap.ensures) c.put_bytes.ensures.written
