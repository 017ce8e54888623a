-- The parts, written one after the other, are the line.
use mathlib.Core.List.{[], ◌∷◌}
use native.Mathlib.Omega.{arith}
use Rattle.report.specs.Text.{decimal_text, shown_text, result_text}
use Rattle.report.proofs.Text.{length-result_text, written_then, written_as, append-4}
use Rattle.report.proofs.put_result.Goals as goal

pub put_decimal-space-requires : goal.put_decimal-space-requires
put_decimal-space-requires c = let a = c.args in omega (arith, length-result_text a.answer a.shown)

pub put_text-next-requires : goal.put_text-next-requires
put_text-next-requires c = let a = c.args in omega (arith, length-result_text a.answer a.shown)

pub put_shown-end-requires : goal.put_shown-end-requires
put_shown-end-requires c = let a = c.args in omega (arith, length-result_text a.answer a.shown)

pub put_text-requires : goal.put_text-requires
put_text-requires c = let a = c.args in omega (arith, length-result_text a.answer a.shown)

pub returns : goal.returns
unfolding result_text
returns c =
    let at4 = c in
    let at3 = at4 in
    let at2 = at3 in
    let at1 = at2 in
    let start = at1 in
    let a = start.args in
    let answer = at1.put_decimal-space.ensures in
    let space = at2.put_text-next.ensures in
    let shown = at3.put_shown-end.ensures in
    let newline = at4.put_text.ensures in
    let room = length-result_text a.answer a.shown in
    let two = written_then a.out.now _ _ a.at _ _ (decimal_text a.answer) (32 ∷ []) (omega (arith, start.requires, answer.0, room)) answer space in
    let three = written_then a.out.now _ _ a.at _ _ _ (shown_text a.shown) (omega (arith, start.requires, answer.0, space.0, room)) two shown in
    let four = written_then a.out.now _ _ a.at _ _ _ (10 ∷ []) (omega (arith, start.requires, answer.0, space.0, shown.0, room)) three newline in
    written_as _ _ _ _ _ _ (append-4 (decimal_text a.answer) (32 ∷ []) (shown_text a.shown) (10 ∷ [])) four
