-- The rows over a table's connections: stage, side, FIN bits, deadline and two records.
use Rattle.std.specs.Prelude.{ℕ, ◌≡◌, refl, true}
use Rattle.choice.specs.Choice.{◌=ᵇ◌}
use Rattle.segment.specs.declared.Segment.{Segment}
use Rattle.connection.specs.Decision.{verdict_on, free, opened, passed}
use Rattle.connection.specs.declared.Connection.{Connection}
use Rattle.rows.specs.Rows.{Bodies}

abbrev pub connections : Bodies
connections = record {
  Body = Connection;
  side = λ (c : Connection). c.side;
  deadline = λ (c : Connection). c.deadline;
  verdict = verdict_on;
  passed = passed;
  opened = opened;
  free = free;
  free_deadline = refl;
  -- no connection in use has stage 0
  freed = λ (c : Connection). c.stage =ᵇ 0;
}

-- a pass has freed an entry exactly where the connection that it leaves is free
abbrev pub FreedWhereFree : Type 0
FreedWhereFree =
    (c : Connection) (i : ℕ) (g : Segment) (now : ℕ) →
    (connections.freed (passed c i g now) ≡ true → passed c i g now ≡ free)
    × (passed c i g now ≡ free → connections.freed (passed c i g now) ≡ true)
