-- The legal list of `honest` on bytes: each call lends the packet that brings what it asks, and three more lend packets that are refused.
use Rattle.std.specs.Prelude.{ℕ, List, map}
use Rattle.octets.specs.BigEndian.{octets_of}
use Rattle.octets.specs.Overwrite.{overwrite}
use Rattle.octets.proofs.Octets.{octets-octets_of, octets-overwrite}
use Rattle.honest.specs.Rules.{Event}
use Rattle.honest.specs.Carries.{with_call, with_other}
use Rattle.honest.specs.Witness.{o, a, brings, witness}
use Rattle.honest.specs.AsWritten.{aborted}
use Rattle.demands.specs.Bytes.{BytesCall}
use Rattle.demands.specs.Packets.{bytes_call}

abbrev pub made_witness : List (Event BytesCall)
made_witness = map (with_call (λ b. bytes_call b.0)) witness

-- and the list that is legal in document 02's own words
abbrev pub bytes_aborted : List (Event BytesCall)
bytes_aborted = map (with_call (λ b. bytes_call b.0)) aborted

-- a call with n bytes of its packet, from one on, made the octets of v
abbrev pub spoilt : (from n v : ℕ) → BytesCall → BytesCall
spoilt from n v q = record {
  side = q.side;
  clock = q.clock;
  packet = overwrite q.packet from (octets_of n v);
  octets = octets-overwrite q.packet from (octets_of n v) q.octets (octets-octets_of n v);
}

-- the opener's sending 4 with a time to live of 63 for 64: the header's sum is wrong
abbrev pub wrong_header_sum : BytesCall
wrong_header_sum = spoilt 8 1 63 (bytes_call (brings 280900 (o 4)).0)

-- its sending 6 with more-fragments set and a time to live of 32, so that the sum is right
abbrev pub fragment : BytesCall
fragment = spoilt 6 3 0x200020 (bytes_call (brings 281900 (o 6)).0)

-- the answerer's sending 2 with a window of 65,535 for 2,510: TCP's sum is wrong. Passed, it would let the opener send up to an edge that the
-- answerer has not granted
abbrev pub wrong_window : BytesCall
wrong_window = spoilt 34 2 0xffff (bytes_call (brings 281050 (a 2)).0)

-- each right before the arrival of the packet that it was made from: 53 of the witness's events come after the fragment, 64 after the wrong window, 65
-- after the wrong header sum
abbrev pub bytes_witness : List (Event BytesCall)
bytes_witness = with_other 53 fragment (with_other 64 wrong_window (with_other 65 wrong_header_sum made_witness))
