-- The control bits that the rules name (RFC 9293, 3.1); all other bits are ignored.
use Rattle.std.specs.Prelude.{ℕ, ◌+◌, ◌*◌, ◌/◌, ◌%◌, Bool}
use Rattle.choice.specs.Choice.{◌=ᵇ◌}
use Rattle.segment.specs.declared.Flag.{Flag}
use Rattle.segment.specs.declared.Flag.TheVariants.{Fin, Syn, Rst, Ack}

abbrev pub fin : ℕ → ℕ
fin f = f % 2

abbrev pub syn : ℕ → ℕ
syn f = f / 2 % 2

abbrev pub rst : ℕ → ℕ
rst f = f / 4 % 2

abbrev pub ack : ℕ → ℕ
ack f = f / 16 % 2

-- the bit of each, 1 where it is set
abbrev pub flag_bit : Flag → ℕ → ℕ
flag_bit Fin f = fin f
flag_bit Syn f = syn f
flag_bit Rst f = rst f
flag_bit Ack f = ack f

-- RST is set: a reset
abbrev pub is_reset : ℕ → Bool
is_reset f = rst f =ᵇ 1

-- the four alone, each at its place
abbrev pub control : ℕ → ℕ
control f = fin f + 2 * syn f + 4 * rst f + 16 * ack f

-- flags of one kind of segment each

abbrev pub SYN : ℕ
SYN = 2

abbrev pub SYN+ACK : ℕ
SYN+ACK = 18

abbrev pub ACK : ℕ
ACK = 16

abbrev pub FIN+ACK : ℕ
FIN+ACK = 17

abbrev pub RST : ℕ
RST = 4

abbrev pub RST+FIN : ℕ
RST+FIN = 5

-- without FIN
abbrev pub ACK+RST : ℕ
ACK+RST = 20

abbrev pub ACK+RST+FIN : ℕ
ACK+RST+FIN = 21
