-- The fragment word's low 14 bits are the more-fragments flag and the offset.
use Rattle.std.proofs.Common.{◌≡◌, ℕ, ◌/◌, ◌%◌, ◌||◌, bit_and, arith}
use Rattle.choice.specs.Choice.{◌=ᵇ◌, ◌≠ᵇ◌}
use Rattle.std.proofs.lemmas.Nat.{and_mask}
use Rattle.std.proofs.lemmas.Bool.Decides.{nat_tests}

pub fragment_bits : (w : ℕ) → ((w / 8192 % 2 =ᵇ 1) || (w % 8192 ≠ᵇ 0)) ≡ (bit_and w 0x3fff ≠ᵇ 0)
fragment_bits w = let low : bit_and w 0x3fff ≡ w % 0x4000 = and_mask w 14 in rw low (grind (arith, nat_tests))
