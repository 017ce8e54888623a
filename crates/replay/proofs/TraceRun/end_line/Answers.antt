-- What the line comes to is added to the output and counted.
use Rattle.std.proofs.Common.{length, ap, ◌∙◌, arith}
use Rattle.octets.proofs.Overwrite.{length-overwrite}
use Rattle.replay.specs.Printed.{Result}
use Rattle.replay.specs.Feed.{with_result, with_line}
use Rattle.replay.specs.Run.{memory_of}
use Rattle.replay.proofs.Answer.{text-short}
use Rattle.replay.proofs.TraceRun.end_line.Goals as goal

pub put_answer-requires : goal.put_answer-requires
put_answer-requires c =
    let same = c.answer_line-answer.ensures.same in
    omega (arith, text-short _ _ _ c.answer_line-answer.ensures.answered, ap (λ m. m.progress.used) same, ap (λ m. length m.out) same)

pub returns : goal.returns
unfolding with_line
returns c =
    let answered = c.answer_line-answer.ensures.answered in
    let fits = text-short _ _ _ answered in
    let same = c.answer_line-answer.ensures.same in
    let s : Result = record { answer = c.answer_line-answer.result.0; shown = c.answer_line-answer.result.1; table = c.answer_line-answer.new.self.table.now } in
    let used = ap (λ m. m.progress.used) same in
    let after = c.put_answer.ensures ∙ ap (λ m. with_result m s) same in
    let p = ap (λ m. m.progress) after in
    record {
      result_after = after ∙ ap (with_result (memory_of c.args.self.now)) answered;
      kept_value = (ap (λ p. p.kept) p, omega (arith, fits, ap (λ p. p.used) p));
      same_room = ap (λ m. length m.out) after ∙ length-overwrite _ _ _ (omega (arith, fits));
    }
