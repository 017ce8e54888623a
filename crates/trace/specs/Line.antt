-- A trace line (document 01, "Trace lines"): side `0` or `1`, space, 12 hex digits of clock, space, 1 to 2,048 packet
-- bytes as hex pairs, lower case only; no newline inside. A line is the list of its characters, without a newline.
use Rattle.std.specs.Prelude.{ℕ, ◌+◌, ◌-◌, ◌*◌, ◌/◌, ◌^◌, ◌≤◌, ◌<◌, ◌≡◌, Bool, true, ◌||◌, List, ◌∷◌, ◌++◌, length, get_or}
use Rattle.choice.specs.Choice.{when◌then◌else◌, ◌=ᵇ◌}
use Rattle.octets.specs.Octets.{Octets}
use Rattle.octets.specs.Digits.{tabulate}
use Rattle.trace.specs.Hex.{is_hex, hex_number, hex_digits, hex_pairs}

-- Legal lines and legal values, told without a reader or a writer

-- may byte b stand at position i? `0` or `1`; a space before and after the clock; else a hex digit
unfoldable pub may_stand : ℕ → ℕ → Bool
may_stand i b =
    when i =ᵇ 0 then (b =ᵇ 48) || (b =ᵇ 49)
    else when (i =ᵇ 1) || (i =ᵇ 14) then b =ᵇ 32
    else is_hex b

-- a legal line of n packet bytes
pub record LegalLine (l : List ℕ) (n : ℕ) : Type 0 where
  pub some : 1 ≤ n
  pub most : n ≤ 2048
  pub whole : length l ≡ 15 + 2 * n
  pub each : (i : ℕ) → i < length l → may_stand i (get_or l i 0) ≡ true

-- what a legal line says
pub record LegalValues (side clock : ℕ) (packet : List ℕ) : Type 0 where
  pub side_known : side < 2
  pub clock_fits : clock < 2 ^ 48
  pub some : 1 ≤ length packet
  pub most : length packet ≤ 2048
  pub each : Octets packet

-- The fields of a line

unfoldable pub line_side : List ℕ → ℕ
line_side l = get_or l 0 0 - 48

unfoldable pub line_clock : List ℕ → ℕ
line_clock l = hex_number l 2 12

unfoldable pub packet_length : List ℕ → ℕ
packet_length l = (length l - 15) / 2

unfoldable pub line_packet : List ℕ → List ℕ
line_packet l = tabulate (λ i. hex_number l (15 + 2 * i) 2) (packet_length l)

-- the line that says them
unfoldable pub line_of : ℕ → ℕ → List ℕ → List ℕ
line_of side clock packet = (48 + side) ∷ 32 ∷ hex_digits 12 clock ++ (32 ∷ hex_pairs packet)
