use native.Mathlib.Omega.{arith}
use Rattle.std.proofs.lemmas.Grind.{common_steps}
use Rattle.table.specs.Table.{header_clock}
use Rattle.table.proofs.Words.{header_by_words}
use Rattle.table.proofs.Zeros.{zeros_of_part}
use Rattle.table.proofs.sound_header.Goals as goal

pub returns-then-read_be-last_word : goal.returns-then-read_be-last_word
unfolding header_clock
returns-then-read_be-last_word c =
    let t = c.args.bytes.now in
    let told = header_by_words c.args.version t (λ i. (c.type_inv.bytes i).fits) in
    let zeros = zeros_of_part t 8 48 (omega arith) in
    grind (arith, common_steps, zeros, told)

pub returns-else-read_be-last_word : goal.returns-else-read_be-last_word
unfolding header_clock
returns-else-read_be-last_word c =
    let told = header_by_words c.args.version c.args.bytes.now (λ i. (c.type_inv.bytes i).fits) in
    grind (arith, common_steps, told)
