-- Demands 2 and 3 of the call on bytes: it is a machine that keeps to rows 11 to 15 and 0. And all three of the IPv4 filter.
use Prim.Native.Nat.{ℕ}
use mathlib.Core.Path.{ap, ◌∙◌}
use mathlib.Core.List.{List}
use Rattle.address.specs.declared.Version.{Version}
use Rattle.address.specs.declared.Version.TheVariants.{V4}
use Rattle.packet.specs.Read.{PacketRead, read_ipv4}
use Rattle.packet.specs.Reader.{ReaderOf}
use Rattle.packet.proofs.Readable.{ipv4-reader}
use Rattle.honest.proofs.Demand3.{demand3}
use Rattle.honest.proofs.AsWritten.{demand3_as_written}
use Rattle.honest.proofs.Demand2Machine.{stays-sound, demand2-of}
use Rattle.demands.specs.Bytes.{SoundBytes, bytes_machine}
use Rattle.demands.specs.Encoded.{table_bytes}
use Rattle.demands.specs.Demands.{fresh_bytes, Demand2OnBytes, Demand3OnBytes, Demand3FromSound, DemandsOfEveryVersion, DemandsOfIPv4}
use Rattle.demands.proofs.Demand1.{demand1-on-bytes}
use Rattle.demands.proofs.Encoded.{sound-bytes}
use Rattle.demands.proofs.Fresh.{fresh-bytes-sound, fresh-bytes-view}
use Rattle.demands.proofs.Keeps.{bytes-keep}

module _ (v : Version) (read : List ℕ → PacketRead) (reader : ReaderOf v read) where
  demand2-on-bytes : Demand2OnBytes v read
  demand2-on-bytes n some most l =
      let M = bytes_machine v read in
      let keeps = bytes-keep v read reader in
      let sound = fresh-bytes-sound v n some most in
      let view = fresh-bytes-view v n in
      let follows = demand2-of M (SoundBytes v) keeps (fresh_bytes v n) sound n view l in
      let after = stays-sound M (SoundBytes v) keeps (fresh_bytes v n) sound n view l in
      (sound-bytes v _ after ∙ ap (table_bytes v) follows.table, follows, after)

  demand3_from_sound : Demand3FromSound v read
  demand3_from_sound = demand3 (bytes_machine v read) (SoundBytes v) (bytes-keep v read reader)

  demand3-on-bytes : Demand3OnBytes v read
  demand3-on-bytes n some most P known L legal =
      demand3_from_sound (fresh_bytes v n) (fresh-bytes-sound v n some most) P known L legal

pub demands-of-every-version : DemandsOfEveryVersion
demands-of-every-version v read reader = record {
  demand1 = demand1-on-bytes v read reader;
  demand2 = demand2-on-bytes v read reader;
  demand3 = demand3-on-bytes v read reader;
  demand3_from_sound = demand3_from_sound v read reader;
  demand3_as_written = demand3_as_written (bytes_machine v read) (SoundBytes v) (bytes-keep v read reader);
}

pub demands-of-ipv4 : DemandsOfIPv4
demands-of-ipv4 = demands-of-every-version V4 read_ipv4 ipv4-reader
