-- What is asked of a reader is needed, by one call on a fresh table of one place.
use Prim.Native.Nat.{ℕ, ◌^◌, ◌<◌}
use mathlib.Core.Path.{◌≡◌, refl, sym, ap, ◌∙◌}
use mathlib.Core.Logic.{inl, ⊎_elim}
use mathlib.Core.Bool.{false}
use mathlib.Core.List.{List, [], ◌∷◌}
use native.Mathlib.Omega.{arith}
use Rattle.choice.specs.Choice.{when◌then◌else◌}
use Rattle.choice.proofs.Tests.{false-true}
use Rattle.serial.specs.Ring.{wrap, ring_plus, ring_minus}
use Rattle.octets.specs.Digits.{tabulate, number, digits}
use Rattle.octets.specs.Overwrite.{overwrite}
use Rattle.octets.specs.BigEndian.{big_endian, octets_of}
use Rattle.octets.proofs.Octets.{bytes-[]}
use Rattle.address.specs.Flows.{same_flow}
use Rattle.address.specs.declared.Version.TheVariants.{V4}
use Rattle.packet.specs.Reader.{PointsInto}
use Rattle.packet.specs.declared.Cause.{Cause}
use Rattle.packet.specs.Read.{PacketRead}
use Rattle.connection.specs.Decision.{opened}
use Rattle.connection.specs.Sound.{sound_fins, sound_end, sound_unanswered, sound_connection}
use Rattle.connection.specs.Stages.{life_of}
use Rattle.rows.specs.Places.{first_from}
use Rattle.rows.specs.Rows.{View, from_opener, from_answerer, live_match, vacant, opening_entry, unmatched, on_segment}
use Rattle.rows.specs.Connections.{connections}
use Rattle.entry.specs.Layout.{end_bytes, marks_bytes, flow_bytes, numbers_bytes, entry_bytes, connection_at, entry_at, place_at}
use Rattle.table.specs.Table.{zeros_at, all_from, header_clock, sound_header, free_at, sound_at, sound_table}
use Rattle.filter.specs.Length.{legal_length, places_for}
use Rattle.filter.specs.Call.{places_in, table_of, outcome_of, reply_of}
use Rattle.filter.specs.declared.Reply.{Reply}
use Rattle.honest.specs.Histories.{histories, in_numbers}
use Rattle.honest.specs.Demand2.{view_after, asked, state_after}
use Rattle.demands.specs.Bytes.{BytesCall, reading_of, bytes_machine}
use Rattle.demands.specs.Demands.{fresh_bytes}
use Rattle.demands.specs.Readers.{wide_window, wide_address, past_packet, ReaderNeeded}

-- any call
abbrev one : BytesCall
one = record { side = 0; clock = 0; packet = []; octets = bytes-[].small }

abbrev left : (List ℕ → PacketRead) → List ℕ
left read = state_after (bytes_machine V4 read) (fresh_bytes V4 1) (one ∷ [])

abbrev first_address : View connections → ℕ
first_address v = (v.entry 0).key.from.address.low

-- a window that is unsound, and an address that is cut to 32 bits
left_is :
    (sound_table V4 (left wide_window) (places_in V4 (left wide_window)) ≡ false)
    × (first_address (table_of V4 (left wide_address)) ≡ 0)
unfolding state_after tabulate number digits overwrite big_endian octets_of end_bytes marks_bytes flow_bytes numbers_bytes entry_bytes connection_at entry_at place_at zeros_at all_from header_clock sound_header free_at sound_at sound_table first_from from_opener from_answerer live_match vacant opening_entry unmatched on_segment same_flow legal_length places_for outcome_of opened sound_fins sound_end sound_unanswered sound_connection life_of wrap ring_plus ring_minus when◌then◌else◌
left_is = (refl, refl)

whole : first_address (in_numbers (view_after histories 1 (asked (bytes_machine V4 wide_address) (one ∷ [])))) ≡ 2 ^ 32
unfolding view_after asked reading_of first_from from_opener from_answerer live_match vacant opening_entry unmatched on_segment same_flow when◌then◌else◌
whole = refl

-- what the third answers
abbrev refusal : Reply
refusal = reply_of (outcome_of V4 0 0 (fresh_bytes V4 1) (past_packet []))

refusal_is : (refusal.answer ≡ 5) × (refusal.place ≡ 1)
unfolding tabulate number overwrite big_endian place_at zeros_at all_from header_clock sound_header free_at sound_at sound_table legal_length places_for outcome_of connection_at entry_at sound_fins sound_end sound_unanswered sound_connection when◌then◌else◌
refusal_is = (refl, refl)

no-byte-at-1 : (cause : Cause) (offset : ℕ) → offset ≡ 1 → PointsInto [] cause offset → ⊥
no-byte-at-1 cause offset is into = ⊎_elim (λ (inside : offset < 0). omega arith) (λ behind. omega (arith, behind.1)) into.given

pub reader-needed : ReaderNeeded
reader-needed = (
  (λ d. false-true (sym left_is.0 ∙ (d.demand2 1 (omega arith) (omega arith) (one ∷ [])).2.sound)),
  (λ d.
      let same = (d.demand2 1 (omega arith) (omega arith) (one ∷ [])).1.table in
      absurd (omega (arith, sym left_is.1 ∙ ap first_address same ∙ whole))),
  (λ d.
      let five = refusal_is.0 in
      let broken = (d.demand1 0 0 (fresh_bytes V4 1) []).broken_place (inl (omega (arith, five), omega (arith, five))) in
      no-byte-at-1 broken.cause refusal.place refusal_is.1 broken.points),
)
