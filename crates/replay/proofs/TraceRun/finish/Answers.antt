-- The totals are added to what the end of the input leaves.
use Rattle.std.proofs.Common.{ap, ◌∙◌, arith}
use Rattle.report.proofs.Text.{length-total_text≤52}
use Rattle.replay.specs.Feed.{with_total}
use Rattle.replay.specs.Run.{memory_of}
use Rattle.replay.proofs.Answer.{with_total-put}
use Rattle.replay.proofs.TraceRun.finish.Goals as goal

pub put_total-self-requires : goal.put_total-self-requires
put_total-self-requires c =
    let p = c.end_input.new.self.progress in
    omega (arith, length-total_text≤52 p.passed p.lines)

pub returns-clause-result_after : goal.returns-clause-result_after
returns-clause-result_after c =
    with_total-put (memory_of c.end_input.new.self) _ _ c.put_total-self.ensures ∙ ap with_total c.end_input.ensures.result_after

pub returns-clause-used_in_bounds : goal.returns-clause-used_in_bounds
returns-clause-used_in_bounds c =
    let p = c.end_input.new.self.progress in
    omega (arith, c.put_total-self.ensures.0, length-total_text≤52 p.passed p.lines)
