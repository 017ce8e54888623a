-- The rows themselves as a machine: its table is a view.
use Rattle.std.specs.Prelude.{ℕ, ◌≤◌}
use Rattle.rows.specs.Rows.{View, Ask, filter, answer_of, place_by, after}
use Rattle.rows.specs.Connections.{connections}
use Rattle.history.specs.History.{Placeable}
use Rattle.honest.specs.Sound.{SoundView, TwoEndedView}
use Rattle.honest.specs.Machine.{asks, Machine}

-- a well-formed call: side 0 or 1, and a segment fit for the line, as all are that the packet reader gives
abbrev pub ViewCall : Type 0
ViewCall = (a : Ask) × (a.side ≤ 1) × Placeable a.segment

-- its places have any numbers; where they differ it keeps to the rows (`KeepsTo.numbers_differ`)
abbrev pub view_machine : (ℕ → ℕ) → Machine
view_machine number = record {
  State = View connections;
  Call = ViewCall;
  run = λ v q. record {
    answer = answer_of connections (filter connections v q.0);
    place = place_by number (filter connections v q.0);
    next = after connections v (filter connections v q.0);
  };
  view = λ v. v;
  number = number;
  reads = λ q. asks q.0;
}

-- sound, and its numbers as their types have them
abbrev pub SoundTwoEndedView : View connections → Type 0
SoundTwoEndedView v = SoundView v × TwoEndedView v
