use Rattle.std.proofs.Common.{ap, ◌∙◌, refl, Some, arith}
use Rattle.script.proofs.Taken.{Reading-next, byte-given, nothing-given, takes-at_newline, takes-last, takes-too_long}
use Rattle.script.proofs.Lines.next_line_into.Goals as goal
use Rattle.script.proofs.Lines.next_line_into.Goals.{else-loop-test, then-loop-test+in_ok-next_byte+in-None}

pub returns-in-Some-eq10-clause-taken : goal.returns-in-Some-eq10-clause-taken
returns-in-Some-eq10-clause-taken g c =
    let newline = byte-given _ _ _ 10 (c.in-Some-eq10.is ∙ ap Some c.in-Some-eq10.field-0-test) c.in_ok-next_byte.ensures.taken.0 in
    (λ found. takes-at_newline _ _ _ c.loop.line _ c.loop.invariant.reading newline, λ none. cc)

pub loop-preserved : goal.loop-preserved
loop-preserved g c =
    let taken = byte-given _ _ _ c.in-Some.b c.in-Some.is c.in_ok-next_byte.ensures.taken.0 in
    record {
      bound = grind arith;
      held = grind arith;
      reading = Reading-next _ _ _ c.loop.line.items _ _ c.in-Some.b c.loop.invariant.reading taken c.in-Some.b-test.1 (grind arith) (grind arith);
    }

pub returns-clause-taken : goal.returns-clause-taken
returns-clause-taken g c =
    let read = c.loop.invariant.reading in
    elim c.loop-test.branch [
      | else-loop-test w ↦
          rw w.self-is (λ found. takes-too_long _ _ c.loop.line.items _ _ read (omega arith), λ none. takes-too_long _ _ c.loop.line.items _ _ read (omega arith))
      | then-loop-test+in_ok-next_byte+in-None w ↦
          let end = w.in_ok-next_byte.ensures.taken in
          let nothing = nothing-given _ _ _ w.in-None.is end.0 in
          let at_end = end.1 w.in-None.is in
          rw w.self-is (
            λ found. takes-last _ _ _ c.loop.line _ _ read nothing at_end (λ some. refl) (λ empty. absurd (grind arith)),
            λ none. takes-last _ _ _ c.loop.line _ _ read nothing at_end (λ some. absurd (grind arith)) (λ empty. refl),
          )
    ]
