-- The mask's bits: ACK, a bit left out, then RST, SYN and FIN.
use Rattle.std.proofs.Common.{◌≡◌, ℕ, ◌+◌, ◌*◌, ◌/◌, ◌%◌, bit_and, ap, ◌∙◌, arith}
use Rattle.std.proofs.lemmas.Nat.{and_mask, and_block}
use Rattle.std.specs.Int.Bits.{and_zero_r}
use Rattle.packet.proofs.control_bits.Goals as goal

low_bits : (f : ℕ) → bit_and f 0x17 ≡ bit_and (f / 8) 2 * 8 + bit_and (f % 8) 7
low_bits f =
    let parts : f ≡ f / 8 * 8 + f % 8 = omega arith in
    ap (λ n. bit_and n 0x17) parts ∙ and_block 3 (f / 8) 2 (f % 8) 7 (omega arith) (omega arith)

ack_bit : (n : ℕ) → bit_and n 2 ≡ bit_and (n / 2) 1 * 2 + bit_and (n % 2) 0
ack_bit n =
    let parts : n ≡ n / 2 * 2 + n % 2 = omega arith in
    ap (λ m. bit_and m 2) parts ∙ and_block 1 (n / 2) 1 (n % 2) 0 (omega arith) (omega arith)

pub returns : goal.returns
returns c =
    let f : ℕ = c.args.flags in
    omega (arith, low_bits f, and_mask (f % 8) 3, ack_bit (f / 8), and_mask (f / 8 / 2) 1, and_zero_r (f / 8 % 2))
