-- Document 01, "What the gate says": "Bytes past total length are ignored."
use Rattle.std.specs.Prelude.{ℕ, ◌≤◌, ◌≡◌, List, ◌++◌, length}
use Rattle.packet.specs.Header.{total_length}
use Rattle.filter.specs.Call.{ipv4_outcome}

-- whatever bytes follow a whole packet, the call comes to the same
abbrev pub PastTotalIgnoredByCall : Type 0
PastTotalIgnoredByCall =
    (side clock : ℕ) (t p past : List ℕ) → 20 ≤ length p → total_length p ≤ length p →
    ipv4_outcome side clock t (p ++ past) ≡ ipv4_outcome side clock t p
