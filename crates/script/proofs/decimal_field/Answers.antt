use Rattle.std.proofs.Common.{◌<◌, length, sym, ◌∙◌, arith}
use Rattle.script.proofs.Fields.{decimal_field≡read_from, read_from-past, read_from-ended, read_from-passed, read_from-taken, read_from-skipped}
use Rattle.script.proofs.decimal_field.Goals as goal

pub loop-c-init : goal.loop-c-init
loop-c-init c = (omega arith, decimal_field≡read_from _ _)

pub returns-then-spaces-eq0 : goal.returns-then-spaces-eq0
returns-then-spaces-eq0 c =
    let l = c.loop-c in
    sym (l.invariant.1 ∙ read_from-ended c.args.line.now l.v l.spaces l.c-index (omega arith) l.invariant.0 c.if-c-eq32.true c.if-spaces-eq0.true)

pub loop-c-preserved : goal.loop-c-preserved
loop-c-preserved c =
    let line = c.args.line.now in
    let l = c.loop-c in
    let inside : l.c-index < length line = omega arith in
    grind (arith, read_from-passed line l.v l.spaces l.c-index inside, read_from-taken line l.v l.spaces l.c-index inside, read_from-skipped line l.v l.spaces l.c-index inside)

pub returns : goal.returns
returns c =
    let l = c.loop-c in
    sym (l.invariant.1 ∙ read_from-past c.args.line.now l.v l.spaces l.c-index (omega arith) l.invariant.0)
