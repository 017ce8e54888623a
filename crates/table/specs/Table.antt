-- The table in bytes, n places after its header (document 01, "The table").
use Rattle.std.specs.Prelude.{ℕ, zero, suc, ◌+◌, ◌^◌, Bool, true, ◌&&◌, ◌||◌, List, get_or}
use Rattle.choice.specs.Choice.{◌<ᵇ◌, ◌=ᵇ◌}
use Rattle.octets.specs.BigEndian.{big_endian}
use Rattle.address.specs.declared.Version.{Version}
use Rattle.address.specs.declared.Version.TheVariants.{V4, V6}
use Rattle.connection.specs.Sound.{sound_connection}
use Rattle.rows.specs.Rows.{View}
use Rattle.rows.specs.Connections.{connections}
use Rattle.entry.specs.Layout.{rest_size, blank_at, rest_at, entry_size, place_at, entry_at}
use Rattle.entry.specs.Viewed.{viewed}

-- all of the k numbers from i on pass a test
unfoldable pub all_from : (ℕ → Bool) → ℕ → ℕ → Bool
all_from test i zero = true
all_from test i (suc k) = test i && all_from test (i + 1) k

-- the n bytes from at on are zeros
unfoldable pub zeros_at : List ℕ → ℕ → ℕ → Bool
zeros_at t at n = all_from (λ i. get_or t i 0 =ᵇ 0) at n

-- Sound

-- header: clock (8), then zeros; byte 62 tells the IP version (document 02, item 14)
abbrev pub clock_at : ℕ
clock_at = 0

abbrev pub header_zeros_at : ℕ
header_zeros_at = 8

abbrev pub header_zeros : ℕ
header_zeros = 54

abbrev pub version_byte_at : ℕ
version_byte_at = 62

abbrev pub last_at : ℕ
last_at = 63

unfoldable pub header_clock : List ℕ → ℕ
header_clock t = big_endian 8 t clock_at

-- document 02, item 14: "1 in an IPv6 table and 0 otherwise"
abbrev pub version_byte : Version → ℕ
version_byte V4 = 0
version_byte V6 = 1

-- header clock under 2^48, the byte of its version, and its rest zero
unfoldable pub sound_header : Version → List ℕ → Bool
sound_header v t =
    (header_clock t <ᵇ 2 ^ 48)
    && (zeros_at t header_zeros_at header_zeros
    && ((get_or t version_byte_at 0 =ᵇ version_byte v)
    && (get_or t last_at 0 =ᵇ 0)))

-- a free entry is 64 or 96 zeros
unfoldable pub free_at : Version → List ℕ → ℕ → Bool
free_at v t p = zeros_at t (place_at v p) (entry_size v)

-- either free, or zero bytes zero and its connection sound by the header clock
unfoldable pub sound_at : Version → List ℕ → ℕ → Bool
sound_at v t p =
    free_at v t p
    || ((get_or t (blank_at (place_at v p)) 0 =ᵇ 0)
    && (zeros_at t (rest_at v (place_at v p)) (rest_size v)
    && sound_connection (header_clock t) (entry_at v t (place_at v p)).connection))

unfoldable pub sound_table : Version → List ℕ → ℕ → Bool
sound_table v t n = sound_header v t && all_from (sound_at v t) 0 n

-- What rows 11 to 15 and 0 see of it: n places

abbrev pub view_of : Version → List ℕ → ℕ → View connections
view_of v t n = record { clock = header_clock t; places = n; entry = λ p. viewed (entry_at v t (place_at v p)) }
