-- A turn leaves nothing to write.
use Rattle.std.proofs.Common.{◌≡◌, length}
use Rattle.trace_filter.proofs.run_trace.Given as goal

abbrev pub invariant-loop : goal.invariant-loop
invariant-loop g l = (length l.run.out.now ≡ 524288) × (l.run.progress.used ≡ 0)
