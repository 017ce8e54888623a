-- The parts, written one after the other, are the line.
use mathlib.Core.List.{[], ◌∷◌}
use native.Mathlib.Omega.{arith}
use Rattle.report.specs.Text.{passed_text, of_text, decimal_text, total_text}
use Rattle.report.proofs.Text.{length-total_text, written_then, written_as, append-5}
use Rattle.report.proofs.put_total.Goals as goal

pub put_text-first-requires : goal.put_text-first-requires
put_text-first-requires c = let a = c.args in omega (arith, length-total_text a.passed a.lines)

pub put_decimal-word-requires : goal.put_decimal-word-requires
put_decimal-word-requires c = let a = c.args in omega (arith, length-total_text a.passed a.lines)

pub put_text-second-requires : goal.put_text-second-requires
put_text-second-requires c =
    let a = c.args in omega (arith, length-total_text a.passed a.lines)

pub put_decimal-end-requires : goal.put_decimal-end-requires
put_decimal-end-requires c =
    let a = c.args in omega (arith, length-total_text a.passed a.lines)

pub put_text-requires : goal.put_text-requires
put_text-requires c = let a = c.args in omega (arith, length-total_text a.passed a.lines)

pub returns : goal.returns
unfolding total_text
returns c =
    let at5 = c in
    let at4 = at5 in
    let at3 = at4 in
    let at2 = at3 in
    let at1 = at2 in
    let start = at1 in
    let a = start.args in
    let word = at1.put_text-first.ensures in
    let passed = at2.put_decimal-word.ensures in
    let of = at3.put_text-second.ensures in
    let lines = at4.put_decimal-end.ensures in
    let newline = at5.put_text.ensures in
    let room = length-total_text a.passed a.lines in
    let two = written_then a.out.now _ _ a.at _ _ passed_text (decimal_text a.passed) (omega (arith, start.requires, word.0)) word passed in
    let three = written_then a.out.now _ _ a.at _ _ _ of_text (omega (arith, start.requires, word.0, passed.0, room)) two of in
    let four = written_then a.out.now _ _ a.at _ _ _ (decimal_text a.lines) (omega (arith, start.requires, word.0, passed.0, of.0, room)) three lines in
    let five = written_then a.out.now _ _ a.at _ _ _ (10 ∷ []) (omega (arith, start.requires, word.0, passed.0, of.0, lines.0, room)) four newline in
    written_as _ _ _ _ _ _ (append-5 passed_text (decimal_text a.passed) of_text (decimal_text a.lines) (10 ∷ [])) five
