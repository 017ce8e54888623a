-- A sound connection (document 01, "The table"; stage 6 is document 02's, item 6), by the header clock.
use Rattle.std.specs.Prelude.{ℕ, ◌+◌, Bool, true, ◌&&◌}
use Rattle.choice.specs.Choice.{when◌then◌else◌, ◌≤ᵇ◌, ◌=ᵇ◌}
use Rattle.serial.specs.Serial.{seq_minus}
use Rattle.connection.specs.Ends.{opener, answerer, record_of}
use Rattle.connection.specs.Ranges.{widest}
use Rattle.connection.specs.Stages.{longest_life}
use Rattle.connection.specs.declared.Connection.{Connection}
use Rattle.connection.specs.declared.End.{End}

-- FIN bits 0 in stages 1 to 3, 1 or 2 in stage 4, 3 in stage 5, 0 to 3 in stage 6
unfoldable pub sound_fins : ℕ → ℕ → Bool
sound_fins stage fins =
    when stage ≤ᵇ 3 then fins =ᵇ 0
    else when stage =ᵇ 4 then (1 ≤ᵇ fins) && (fins ≤ᵇ 2)
    else when stage =ᵇ 5 then fins =ᵇ 3
    else fins ≤ᵇ 3

-- win 1 to 65,535; (edge − end) mod 2^32 at most 65,535
unfoldable pub sound_end : End → Bool
sound_end e = (1 ≤ᵇ e.win.0) && ((e.win.0 ≤ᵇ widest) && ((seq_minus e.edge e.end).0 ≤ᵇ widest))

-- in stage 1 the opener's edge equals its end and the answerer has 0, 0, 1
unfoldable pub sound_unanswered : ℕ → End → End → Bool
sound_unanswered stage o a =
    when stage =ᵇ 1 then (o.edge.0 =ᵇ o.end.0) && ((a.end.0 =ᵇ 0) && ((a.edge.0 =ᵇ 0) && (a.win.0 =ᵇ 1)))
    else true

-- stage 1 to 6, side 0 or 1, deadline at most header clock plus 432,000,000
unfoldable pub sound_connection : ℕ → Connection → Bool
sound_connection clock c =
    (1 ≤ᵇ c.stage)
    && ((c.stage ≤ᵇ 6)
    && ((c.side ≤ᵇ 1)
    && (sound_fins c.stage c.fins
    && ((c.deadline ≤ᵇ clock + longest_life)
    && (sound_end (record_of c.ends opener)
    && (sound_end (record_of c.ends answerer)
    && sound_unanswered c.stage (record_of c.ends opener) (record_of c.ends answerer)))))))
