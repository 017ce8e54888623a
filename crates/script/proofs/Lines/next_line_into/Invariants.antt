use Rattle.std.proofs.Common.{◌≡◌, ◌≤◌, ◌<◌, ℕ, get_or}
use Rattle.arrayvec.specs.ArrayVec.{array_vec_len}
use Rattle.script.specs.Unread.{unread}
use Rattle.script.proofs.Taken.{Reading}
use Rattle.script.proofs.Lines.next_line_into.Given as goal

-- the line stays within its length, a newline that the piece held at first is still to come, and the line has what was taken
abbrev pub invariant-loop : goal.invariant-loop
invariant-loop g l = record {
  bound : array_vec_len l.line ≤ 4096;
  held : (i : ℕ) → l.initial.self.at ≤ i → i < l.initial.self.have → get_or l.initial.self.piece i 0 ≡ 10 →
      (l.self.at ≤ i) × (l.self.have ≡ l.initial.self.have) × (l.self.piece ≡ l.initial.self.piece);
  reading : Reading (unread g.R.Read.remaining l.initial.self) (unread g.R.Read.remaining l.self) l.line.items l.counter;
}
