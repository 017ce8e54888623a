-- Resets on state K, by computation.
use mathlib.Core.Path.{refl}
use Rattle.choice.specs.Choice.{when◌then◌else◌}
use Rattle.serial.specs.Ring.{wrap, ring_plus, ring_minus, nearest}
use Rattle.serial.specs.Serial.{further}
use Rattle.connection.specs.Ends.{sent, granted, ends_after}
use Rattle.connection.specs.Ranges.{sequence_met, ack_met}
use Rattle.connection.specs.Stages.{life_of, with_fin, fins_after, open_stage, stage_after}
use Rattle.connection.specs.Decision.{same_syn, reply, verdict_unanswered, verdict_by_ranges, verdict_on, carried, reset, passed, decided}
use Rattle.connection.specs.Examples.{ResetsGive}

pub resets-give : ResetsGive
unfolding when◌then◌else◌ wrap ring_plus ring_minus nearest further sent granted ends_after sequence_met ack_met life_of with_fin fins_after open_stage stage_after same_syn reply verdict_unanswered verdict_by_ranges verdict_on carried reset passed decided
resets-give = record {
  in_2 = refl;
  in_3 = refl;
  in_3_with_fin = refl;
  in_4 = refl;
  in_4_other = refl;
  in_5 = refl;
  in_6 = refl;
  past_edge = refl;
  past_edge_then = refl;
  past_end = refl;
  past_end_then = refl;
  without_ack = refl;
  to_3_by_syn = refl;
  to-3-by-SYN+ACK = refl;
  to_3_by_ack = refl;
  to_4 = refl;
  to_4_by_fin = refl;
  to_5 = refl;
  to_5_by_fin = refl;
  in_1 = refl;
}
