-- The test of the code is the test of the definition.
use Rattle.std.proofs.Common.{sym, ◌∙◌}
use Rattle.choice.proofs.Choice.{when-=, when-=-not}
use Rattle.replay.specs.Feed.{at_end}
use Rattle.replay.proofs.TraceRun.end_input.Goals as goal

pub returns-then-self-ne0-clause-result_after : goal.returns-then-self-ne0-clause-result_after
unfolding at_end
returns-then-self-ne0-clause-result_after c = c.end_line.ensures.result_after ∙ sym (when-=-not _ _ c.if-self-ne0.true)

pub returns-else-self-ne0-clause-result_after : goal.returns-else-self-ne0-clause-result_after
unfolding at_end
returns-else-self-ne0-clause-result_after c = sym (when-= _ _ c.if-self-ne0.false)
