use Rattle.std.proofs.Common.{◌≡◌, ◌+◌, ◌*◌, ◌≤◌, length}
use Rattle.replay.specs.Feed.{after_piece}
use Rattle.replay.specs.Run.{memory_of}
use Rattle.replay.specs.Written.{result_room}
use Rattle.replay.proofs.TraceRun.feed.Given as goal

abbrev pub invariant-loop-rest : goal.invariant-loop-rest
invariant-loop-rest l =
    record {
      out_room : length l.self.out.now ≡ length l.initial.self.out.now;
      used : l.self.progress.used + result_room * length l.rest ≤ length l.self.out.now;
      rest : after_piece (memory_of l.self) l.rest ≡ after_piece (memory_of l.initial.self) l.piece;
    }

abbrev pub decreases-loop-rest : goal.decreases-loop-rest
decreases-loop-rest l = length l.rest
