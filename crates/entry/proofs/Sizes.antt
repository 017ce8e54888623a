-- How many bytes each part of an entry takes.
use Prim.Native.Nat.{◌+◌}
use mathlib.Core.Path.{◌≡◌, refl}
use lib.ListN.{length}
use Rattle.octets.specs.BigEndian.{octets_of}
use Rattle.octets.specs.Digits.{digits}
use Rattle.address.specs.Address.{address_size}
use Rattle.address.specs.declared.Version.{Version}
use Rattle.address.specs.declared.Version.TheVariants.{V4, V6}
use Rattle.address.specs.declared.Flow.{Flow}
use Rattle.connection.specs.declared.Connection.{Connection}
use Rattle.connection.specs.declared.End.{End}
use Rattle.entry.specs.Layout.{entry_size, end_bytes, marks_bytes, flow_bytes, numbers_bytes, entry_bytes}
use Rattle.entry.specs.declared.Entry.{Entry}

pub length-end_bytes : (e : End) → length (end_bytes e) ≡ 12
unfolding end_bytes octets_of digits
length-end_bytes e = refl

pub length-marks_bytes : (c : Connection) → length (marks_bytes c) ≡ 4
unfolding marks_bytes
length-marks_bytes c = refl

pub length-flow_bytes : (v : Version) (k : Flow) → length (flow_bytes v k) ≡ address_size v + address_size v + 4
unfolding flow_bytes octets_of digits
length-flow_bytes V4 k = refl
length-flow_bytes V6 k = refl

pub length-numbers_bytes : (c : Connection) → length (numbers_bytes c) ≡ 32
unfolding numbers_bytes end_bytes octets_of digits
length-numbers_bytes c = refl

pub length-entry_bytes : (v : Version) (e : Entry) → length (entry_bytes v e) ≡ entry_size v
unfolding entry_bytes marks_bytes flow_bytes numbers_bytes end_bytes octets_of digits
length-entry_bytes V4 e = refl
length-entry_bytes V6 e = refl
