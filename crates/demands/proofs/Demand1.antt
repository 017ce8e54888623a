-- Demand 1 of the call on bytes: what each outcome gives and leaves.
use Prim.Native.Nat.{ℕ, ◌<◌}
use mathlib.Core.Path.{◌≡◌, refl}
use mathlib.Core.List.{List}
use native.Mathlib.Omega.{arith}
use lib.ListN.{length}
use Rattle.address.specs.declared.Version.{Version}
use Rattle.packet.specs.Reader.{ReaderOf}
use Rattle.packet.specs.Read.{PacketRead}
use Rattle.rows.specs.Rows.{Blocked, Passed}
use Rattle.entry.specs.Viewed.{stored}
use Rattle.packet.proofs.Causes.{packet-answer-bounds}
use Rattle.filter.specs.Call.{Outcome, places_in, outcome_of}
use Rattle.filter.proofs.Rows.{inside-places}
use Rattle.filter.proofs.Within.{broken-at, unplaced, Within, outcome-within}
use Rattle.demands.specs.Demands.{Demand1For, Demand1OnBytes}
use Rattle.demands.proofs.Frame.{length-after, byte-elsewhere}

module _ (v : Version) (read : List ℕ → PacketRead) (reader : ReaderOf v read) where
  given : (t packet : List ℕ) (o : Outcome) → Within v t (read packet) o → Demand1For v read t packet o
  given t packet (Blocked n place) within =
      let not-0 : (n ≡ 0 → ⊥) = λ z. omega (arith, within.0, z) in
      record {
        passed_place = λ z. absurd (not-0 z);
        passed_length = λ z. absurd (not-0 z);
        passed_elsewhere = λ z. absurd (not-0 z);
        blocked_answer = λ _. within.1;
        blocked_keeps = λ _. refl;
        broken_place = broken-at v read reader packet n place within.2;
        blocked_place = λ _ other. unplaced (read packet) n place within.2 other;
      }
  given t packet (Passed p now e) within =
      let inside : p < places_in v t = inside-places v (length t) p within.1 in
      record {
        passed_place = λ _. inside;
        passed_length = λ _. length-after v t p now (stored e) inside;
        passed_elsewhere = λ _ i off. byte-elsewhere v t p now (stored e) inside i (omega (arith, off.0)) off.1;
        blocked_answer = λ not-0. absurd (not-0 refl);
        blocked_keeps = λ not-0. absurd (not-0 refl);
        broken_place = λ answer. absurd (omega (arith, (packet-answer-bounds answer).0));
        blocked_place = λ not-0. absurd (not-0 refl);
      }

  pub demand1-on-bytes : Demand1OnBytes v read
  demand1-on-bytes side clock t packet =
      given t packet (outcome_of v side clock t (read packet)) (outcome-within v side clock t (read packet))
