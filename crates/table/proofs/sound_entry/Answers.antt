-- The word first, then the numbers, each as it was read; the order is Words'.
use native.Mathlib.Omega.{arith}
use Rattle.std.proofs.lemmas.Grind.{common_steps}
use Rattle.entry.specs.Layout.{entry_size}
use Rattle.table.proofs.Zeros.{zeros_of_part}
use Rattle.table.proofs.Words.{entry-of-no-word, entry-of-word}
use Rattle.table.proofs.sound_entry.Goals as goal

pub returns-then-word-eq0 : goal.returns-then-word-eq0
returns-then-word-eq0 c =
    let p = c.args.place.now in
    let told = entry-of-no-word p.version p.table.now c.args.clock.ms p.at _ c.little32-word.ensures.value c.if-word-eq0.true in
    let zeros = zeros_of_part p.table.now p.at (entry_size p.version) p.inside in
    grind (arith, common_steps, zeros, told)

pub returns-then-sound_word : goal.returns-then-sound_word
returns-then-sound_word c =
    let p = c.args.place.now in
    let w = c.little32-word.ensures in
    let told = entry-of-word p.version p.table.now c.args.clock.ms p.at _ w.value w.octets c.if-word-eq0.false in
    grind (arith, common_steps, told)

pub returns-else-sound_word : goal.returns-else-sound_word
returns-else-sound_word c =
    let p = c.args.place.now in
    let w = c.little32-word.ensures in
    let told = entry-of-word p.version p.table.now c.args.clock.ms p.at _ w.value w.octets c.if-word-eq0.false in
    grind (arith, common_steps, told)
