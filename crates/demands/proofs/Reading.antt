-- What a call reads, what a reading holds, and that the call on a sound table comes to it.
use Prim.Native.Nat.{ℕ, ◌^◌, ◌≤◌, ◌<◌}
use mathlib.Core.Path.{◌≡◌, refl, sym, ap, ◌∙◌}
use mathlib.Core.Bool.{not}
use mathlib.Core.List.{List}
use native.Mathlib.Omega.{arith}
use borrow.Author.Tests.{leb-true, leb-false, not-false}
use Rattle.std.specs.Prelude.{Ok, Err}
use Rattle.choice.specs.Choice.{when◌then◌else◌, ◌≤ᵇ◌}
use Rattle.choice.proofs.Choice.{when-false, when-ap, when-else, when-cases}
use Rattle.address.specs.Address.{IsFlow}
use Rattle.address.specs.declared.Version.{Version}
use Rattle.segment.specs.Readable.{Readable}
use Rattle.packet.specs.Reader.{ReaderOf}
use Rattle.packet.specs.Read.{PacketRead}
use Rattle.packet.proofs.Causes.{packet-answer-bounds, cause-answer}
use Rattle.rows.specs.Rows.{Ask, View, Blocked, nowhere, filter}
use Rattle.rows.specs.Connections.{connections}
use Rattle.filter.specs.Call.{Outcome, table_of, packet_rows, ask_of, outcome_of}
use Rattle.honest.specs.Machine.{Reading, refused, asks, apart}
use Rattle.demands.specs.Bytes.{BytesCall, SoundBytes, reading_of, called}

-- the packet reader's rows of a call, or what it asks
abbrev asked : BytesCall → PacketRead → Reading Ask
asked q r = packet_rows refused r (λ k g. asks (ask_of q.side q.clock k g))

-- on a sound table rows 3 and 4 say nothing
reading_of≡rows : (read : List ℕ → PacketRead) (q : BytesCall) → reading_of read q ≡
    (when not (q.side ≤ᵇ 1) then refused 1 nowhere
    else when 2 ^ 48 ≤ᵇ q.clock then refused 2 nowhere
    else asked q (read q.packet))
unfolding reading_of
reading_of≡rows read q = when-else _ _ (when-else _ _ (when-false _ _ _ refl ∙ when-false _ _ _ refl))

-- On a sound table the call comes to its reading

abbrev on_reading : View connections → Reading Ask → Outcome
on_reading w (refused n place) = Blocked n place
on_reading w (asks a) = filter connections w a
on_reading w apart = Blocked 0 nowhere

module _ (v : Version) (read : List ℕ → PacketRead) (q : BytesCall) (t : List ℕ) (s : SoundBytes v t) where
  by-packet :
      (r : PacketRead) →
      packet_rows Blocked r (λ k g. filter connections (table_of v t) (ask_of q.side q.clock k g))
      ≡ on_reading (table_of v t) (asked q r)
  by-packet (Err e) = refl
  by-packet (Ok (k, g)) = refl

  outcome-read : called v read t q ≡ on_reading (table_of v t) (reading_of read q)
  unfolding outcome_of
  outcome-read =
      when-else _ _ (when-else _ _ (when-false _ _ _ (ap not s.legal) ∙ when-false _ _ _ (ap not s.sound) ∙ by-packet (read q.packet)))
      ∙ sym (ap (on_reading (table_of v t)) (reading_of≡rows read q)
      ∙ when-ap (on_reading (table_of v t)) _ _ _ ∙ when-else _ _ (when-ap (on_reading (table_of v t)) _ _ _))

  pub asks-outcome : (a : Ask) → reading_of read q ≡ asks a → called v read t q ≡ filter connections (table_of v t) a
  asks-outcome a is = outcome-read ∙ ap (on_reading (table_of v t)) is

  pub refused-outcome : (n place : ℕ) → reading_of read q ≡ refused n place → called v read t q ≡ Blocked n place
  refused-outcome n place is = outcome-read ∙ ap (on_reading (table_of v t)) is

-- What a reading holds

-- an ask that a packet brings
pub record Brought (v : Version) (a : Ask) : Type 0 where
  pub side : a.side ≤ 1
  pub clock : a.clock < 2 ^ 48
  pub key : IsFlow v a.key
  pub segment : Readable a.segment

-- no call concerns another part of the table: the whole is viewed
abbrev Holds : Version → Reading Ask → Type 0
Holds v (refused n place) = 1 ≤ n
Holds v (asks a) = Brought v a
Holds v apart = ⊥

module _ (v : Version) (read : List ℕ → PacketRead) (reader : ReaderOf v read) (q : BytesCall) where
  packet-holds : q.side ≤ 1 → q.clock < 2 ^ 48 → (r : PacketRead) → read q.packet ≡ r → Holds v (asked q r)
  packet-holds side clock (Err e) is = omega (arith, (packet-answer-bounds (cause-answer e.cause)).0)
  packet-holds side clock (Ok (k, g)) is = record {
    side = side;
    clock = clock;
    key = reader.flow q.packet k g q.octets is;
    segment = reader.segment q.packet k g q.octets is;
  }

  reading-holds : Holds v (reading_of read q)
  reading-holds =
      rw (reading_of≡rows read q)
      (when-cases (Holds v) _ _ _ (λ _. omega arith) (λ side-fine.
      when-cases (Holds v) _ _ _ (λ _. omega arith) (λ clock-fine.
      packet-holds (leb-true _ _ (not-false _ side-fine)) (leb-false _ _ clock-fine) (read q.packet) refl)))

  pub never-apart : reading_of read q ≡ apart → ⊥
  never-apart is = rw is at reading-holds

  pub asks-brought : (a : Ask) → reading_of read q ≡ asks a → Brought v a
  asks-brought a is = rw is at reading-holds

  pub refused-holds : (n place : ℕ) → reading_of read q ≡ refused n place → 1 ≤ n
  refused-holds n place is = rw is at reading-holds
