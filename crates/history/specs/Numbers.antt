-- The three numbers of an end on the unwrapped line, and bounds I to IV over them (document 000, with document 01's numbers).
use Rattle.std.specs.Prelude.{ℕ, ◌+◌, Bool, ◌&&◌}
use Rattle.choice.specs.Choice.{◌≤ᵇ◌}
use Rattle.serial.specs.Serial.{seq_at}
use Rattle.connection.specs.Ends.{count}
use Rattle.connection.specs.declared.End.{End}

-- highest sequence end, highest right edge, largest window
pub record Numbers : Type 0 where
  pub end : ℕ
  pub edge : ℕ
  pub win : ℕ

-- the record that holds them modulo 2^32
abbrev pub on_ring : Numbers → End
on_ring x = record { end = seq_at x.end; edge = seq_at x.edge; win = count x.win }

-- I and II, for n octets of sender F from S on: S + n ≤ F's edge, and F's end ≤ S + T's window
abbrev pub bounds_i_ii : Numbers → Numbers → ℕ → ℕ → Bool
bounds_i_ii F T S n = (S + n ≤ᵇ F.edge) && (F.end ≤ᵇ S + T.win)

-- III and IV, for an acknowledgement of A: A ≤ T's end, and T's end ≤ A + range
abbrev pub bounds_iii_iv : ℕ → Numbers → ℕ → Bool
bounds_iii_iv range T A = (A ≤ᵇ T.end) && (T.end ≤ᵇ A + range)
