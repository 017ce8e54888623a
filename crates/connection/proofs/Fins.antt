-- A FIN bit set by the code's `|`, whether it was set before or not.
use Rattle.std.proofs.Common.{◌≡◌, ℕ, ◌+◌, ◌*◌, ◌/◌, ◌%◌, bit_or, arith}
use Rattle.std.specs.Int.Bits.{or_add_and}
use Rattle.segment.proofs.Flags.{fin_and, syn_and}

pub or_1 : (fins : ℕ) → bit_or fins 1 + fins % 2 ≡ fins + 1
or_1 fins = omega (arith, or_add_and fins 1, fin_and fins)

pub or_2 : (fins : ℕ) → bit_or fins 2 + fins / 2 % 2 * 2 ≡ fins + 2
or_2 fins = omega (arith, or_add_and fins 2, syn_and fins)
