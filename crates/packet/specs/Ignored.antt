-- Document 01, "What the gate says": "Bytes past total length are ignored."
use Rattle.std.specs.Prelude.{ℕ, ◌≤◌, ◌≡◌, List, ◌++◌, length}
use Rattle.packet.specs.Header.{total_length}
use Rattle.packet.specs.Read.{read_ipv4}

-- a packet that is whole reads the same whatever bytes follow it
abbrev pub PastTotalIgnored : Type 0
PastTotalIgnored = (p past : List ℕ) → 20 ≤ length p → total_length p ≤ length p → read_ipv4 (p ++ past) ≡ read_ipv4 p
