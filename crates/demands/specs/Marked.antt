-- The marked set of document 01 on bytes: its tables as bytes, its calls with their packets, and one claim over the list.
use Rattle.std.specs.Prelude.{ℕ, ◌≡◌, true, List, [], ◌∷◌}
use Rattle.choice.specs.Choice.{◌=ᵇ◌, when◌then◌else◌}
use Rattle.address.specs.declared.Version.TheVariants.{V4}
use Rattle.packet.specs.Read.{read_ipv4}
use Rattle.rows.specs.Rows.{Ask, Passed, nowhere}
use Rattle.entry.specs.Layout.{place_at, entry_at}
use Rattle.filter.specs.Call.{table_of, table_after}
use Rattle.honest.specs.Machine.{asks, Said}
use Rattle.honest.specs.Marked.{packet1, packet2, entry11, Name, example, C, Case, is_left}
use Rattle.demands.specs.Bytes.{SoundBytes, reading_of, ipv4_machine}
use Rattle.demands.specs.Demands.{fresh_bytes}
use Rattle.demands.specs.Packets.{bytes_call}

-- what the call on bytes says to the packet that brings what is asked
abbrev pub said_to : List ℕ → Ask → Said (List ℕ)
said_to t a = ipv4_machine.run t (bytes_call a)

-- Tables

-- 4,160 zero bytes
unfoldable pub empty_bytes : List ℕ
empty_bytes = fresh_bytes V4 64

-- what the example's two passes leave
unfoldable pub after_syn_bytes : List ℕ
after_syn_bytes = (said_to empty_bytes packet1).next

unfoldable pub state_k_bytes : List ℕ
state_k_bytes = (said_to after_syn_bytes packet2).next

-- C11's own records, at place 0 of an all-zero table
unfoldable pub state11_bytes : List ℕ
state11_bytes = table_after V4 empty_bytes (Passed 0 0 entry11)

-- the table before a case's call
abbrev pub bytes_before : Name → List ℕ
bytes_before (example n) = when n =ᵇ 1 then empty_bytes else when n =ᵇ 2 then after_syn_bytes else state_k_bytes
bytes_before (C n) = when n =ᵇ 11 then state11_bytes else when n =ᵇ 12 then after_syn_bytes else state_k_bytes

-- The claim

-- the bytes are sound and are the case's table, and the packet is read as the case's call; the answer, place 0 with a pass, and what the
-- bytes then hold at place 0 are as said
pub record OnBytes (c : Case) (t : List ℕ) : Type 0 where
  pub sound : SoundBytes V4 t
  pub table : table_of V4 t ≡ c.table
  pub reads : reading_of read_ipv4 (bytes_call c.call) ≡ asks c.call
  pub answer : (said_to t c.call).answer ≡ c.answer
  pub place : (said_to t c.call).place ≡ (when c.answer =ᵇ 0 then 0 else nowhere)
  pub left : is_left c.left (entry_at V4 (said_to t c.call).next (place_at V4 0)).connection.ends ≡ true

abbrev pub AllOnBytes : List Case → Type 0
AllOnBytes [] = Unit {0}
AllOnBytes (c ∷ l) = OnBytes c (bytes_before c.name) × AllOnBytes l
