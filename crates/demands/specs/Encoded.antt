-- The bytes of a table (document 01, "The table").
use Rattle.std.specs.Prelude.{ℕ, zero, suc, ◌+◌, List, [], ◌∷◌, ◌++◌, replicate}
use Rattle.octets.specs.BigEndian.{octets_of}
use Rattle.address.specs.declared.Version.{Version}
use Rattle.rows.specs.Rows.{View}
use Rattle.rows.specs.Connections.{connections}
use Rattle.entry.specs.Layout.{entry_bytes}
use Rattle.entry.specs.Viewed.{stored}
use Rattle.table.specs.Table.{header_zeros, version_byte}

-- the k entries from place i on
unfoldable pub entries_bytes : Version → View connections → ℕ → ℕ → List ℕ
entries_bytes v w i zero = []
entries_bytes v w i (suc k) = entry_bytes v (stored (w.entry i)) ++ entries_bytes v w (i + 1) k

-- header: clock (8), zeros (54), the IP version (1), zero (1); then the entries
abbrev pub table_bytes : Version → View connections → List ℕ
table_bytes v w = octets_of 8 w.clock ++ (replicate header_zeros 0 ++ (version_byte v ∷ 0 ∷ entries_bytes v w 0 w.places))
