-- A run's memory. It stands in a file of its own, as the clauses of the run's type cite the other files.
use Rattle.replay.specs.Feed.{Memory, memory}
use Rattle.replay.specs.declared.TraceRun.{TraceRun}

abbrev pub memory_of : TraceRun → Memory
memory_of r = memory r.table.now r.line.now r.out.now r.progress
