-- A flag's bit, as the code reads it: by the bits that the flags share with its place.
use Rattle.std.proofs.Common.{◌≡◌, ℕ, ◌*◌, bit_and}
use Rattle.std.proofs.lemmas.Nat.{and_mask}
use Rattle.std.proofs.lemmas.Nat.Bits.{and_high}
use Rattle.segment.specs.Flags.{fin, syn, rst, ack}

pub fin_and : (f : ℕ) → bit_and f 1 ≡ fin f
fin_and f = and_mask f 1

pub syn_and : (f : ℕ) → bit_and f 2 ≡ syn f * 2
syn_and f = and_high f 1 1

pub rst_and : (f : ℕ) → bit_and f 4 ≡ rst f * 4
rst_and f = and_high f 1 2

pub ack_and : (f : ℕ) → bit_and f 16 ≡ ack f * 16
ack_and f = and_high f 1 4
