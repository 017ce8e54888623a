-- Answers run from 0 to 16, 5 to 10 and 16 are the reader's with their offsets, and what a pass writes lies in the table.
use Prim.Native.Nat.{ℕ, ◌+◌, ◌≤◌, ◌<◌}
use mathlib.Core.Path.{◌≡◌, refl}
use mathlib.Core.Logic.{◌⊎◌, inl, inr}
use mathlib.Core.List.{List}
use native.Mathlib.Omega.{arith}
use lib.ListN.{length}
use borrow.Author.Tests.{not-false}
use Rattle.choice.proofs.Choice.{when-either, when-cases}
use Rattle.address.specs.declared.Flow.{Flow}
use Rattle.address.specs.declared.Version.{Version}
use Rattle.segment.specs.declared.Segment.{Segment}
use Rattle.std.specs.Prelude.{Ok, Err}
use Rattle.packet.specs.Read.{PacketRead, cause_number, refused_at}
use Rattle.packet.specs.Reader.{PacketAnswer, BrokenAt, ReaderOf}
use Rattle.packet.specs.declared.Cause.{Cause}
use Rattle.packet.proofs.Causes.{packet-answer-bounds, cause-answer}
use Rattle.rows.specs.Rows.{Blocked, Passed, nowhere, filter, clock_used}
use Rattle.rows.specs.Connections.{connections}
use Rattle.rows.proofs.Rows.{Comes, blocks, passes, makes, comes}
use Rattle.entry.specs.Layout.{entry_size, place_at}
use Rattle.entry.proofs.Places.{place_inside}
use Rattle.filter.specs.Call.{Outcome, places_in, table_of, ask_of, packet_rows, outcome_of, reply_of}
use Rattle.filter.proofs.Rows.{legal-length-bounds, places-inside, places-most}

-- the reader's cause and offset, or another row's number and no place
pub data Placed (read : PacketRead) (n place : ℕ) : Type 0 where
  by-reader : (cause : Cause) → read ≡ refused_at cause place → n ≡ cause_number cause → Placed read n place
  by-other-row : (PacketAnswer n → ⊥) → place ≡ nowhere → Placed read n place

-- 5 to 10 and 16 are the reader's
pub broken-at :
    (v : Version) (read : List ℕ → PacketRead) → ReaderOf v read →
    (p : List ℕ) (n place : ℕ) → Placed (read p) n place → PacketAnswer n → BrokenAt read p n place
broken-at v read reader p n place (by-reader cause is numbered) answer =
    record { cause = cause; read_as = is; numbered = numbered; points = reader.points p cause place is }
broken-at v read reader p n place (by-other-row other none) answer = absurd (other answer)

-- and no other has a place
pub unplaced : (read : PacketRead) (n place : ℕ) → Placed read n place → (PacketAnswer n → ⊥) → place ≡ nowhere
unplaced read n place (by-reader cause is numbered) other = absurd (other (rw numbered (cause-answer cause)))
unplaced read n place (by-other-row other none) _ = none

-- rows 1 to 4 and 11 to 15 have other answers than the reader's
other_row : (n : ℕ) → (n ≤ 4) ⊎ ((11 ≤ n) × (n ≤ 15)) → PacketAnswer n → ⊥
other_row n (inl most) (inl answer) = omega (arith, answer.0)
other_row n (inl most) (inr answer) = omega (arith, answer)
other_row n (inr row) (inl answer) = omega (arith, row.0, answer.1)
other_row n (inr row) (inr answer) = omega (arith, row.1, answer)

-- an answer from 1 to 16, or one of at most 512 places, inside the table
abbrev pub Within : Version → List ℕ → PacketRead → Outcome → Type 0
Within v t read (Blocked n place) = (1 ≤ n) × (n ≤ 16) × Placed read n place
Within v t read (Passed p now e) = (p < 512) × (place_at v p + entry_size v ≤ length t)

-- The outcome of a call

module _ (v : Version) (t : List ℕ) (long : place_at v 1 ≤ length t) (short : length t ≤ place_at v 512) where
  place-within : (p : ℕ) → p < places_in v t → (p < 512) × (place_at v p + entry_size v ≤ length t)
  place-within p inside =
      let before_last = place_inside v p (places_in v t) inside in
      let last = places-inside v (length t) long in
      (omega (arith, places-most v (length t) short), omega (arith, before_last, last))

  comes-within :
      (now side : ℕ) (k : Flow) (g : Segment) (read : PacketRead) (o : Outcome) → Comes connections (table_of v t) now side k g o →
      Within v t read o
  comes-within now side k g read o (blocks n is low high) = rw is (omega (arith, low), omega (arith, high), by-other-row (other_row n (inr (low, high))) refl)
  comes-within now side k g read o (passes p is _ inside _ _) = rw is (place-within p inside)
  comes-within now side k g read o (makes p is _ inside _) = rw is (place-within p inside)

  read-within :
      (side clock : ℕ) (read : PacketRead) →
      Within v t read (packet_rows Blocked read (λ k g. filter connections (table_of v t) (ask_of side clock k g)))
  read-within side clock (Err e) = let h = packet-answer-bounds (cause-answer e.cause) in (omega (arith, h.0), h.1, by-reader e.cause refl refl)
  read-within side clock (Ok (k, g)) =
      let now = clock_used connections (table_of v t) (ask_of side clock k g) in
      comes-within now side k g (Ok (k, g)) _ (comes connections (table_of v t) now side k g)

module _ (v : Version) (side clock : ℕ) (t : List ℕ) (read : PacketRead) where
  row_within : (n : ℕ) → 1 ≤ n → n ≤ 4 → Within v t read (Blocked n nowhere)
  row_within n some most = (some, omega arith, by-other-row (other_row n (inl most)) refl)

  pub outcome-within : Within v t read (outcome_of v side clock t read)
  unfolding outcome_of
  outcome-within =
      when-either (Within v t read) _ _ _ (row_within 1 (omega arith) (omega arith))
      (when-either (Within v t read) _ _ _ (row_within 2 (omega arith) (omega arith))
      (when-cases (Within v t read) _ _ _ (λ _. row_within 3 (omega arith) (omega arith))
      (λ legal. when-either (Within v t read) _ _ _ (row_within 4 (omega arith) (omega arith))
      (let h = legal-length-bounds v _ (not-false _ legal) in read-within v t h.0 h.1 side clock read))))

-- an answer is at most 16, and a place at most 65,535
pub reply-small :
    (v : Version) (read : List ℕ → PacketRead) → ReaderOf v read →
    (side clock : ℕ) (t packet : List ℕ) →
    let r = reply_of (outcome_of v side clock t (read packet)) in
    (r.answer ≤ 16) × (r.place ≤ 65535)
reply-small v read reader side clock t packet =
    go (outcome_of v side clock t (read packet)) (outcome-within v side clock t (read packet))
  where
    small : {n place : ℕ} → Placed (read packet) n place → place ≤ 65535
    small (by-reader cause is numbered) = omega (arith, (reader.points packet cause _ is).below_120)
    small (by-other-row other none) = omega (arith, none)

    go : (o : Outcome) → Within v t (read packet) o → ((reply_of o).answer ≤ 16) × ((reply_of o).place ≤ 65535)
    go (Blocked n place) h = (h.1, small h.2)
    go (Passed p now e) h = (omega arith, omega (arith, h.0))
