use Rattle.std.proofs.Common.{◌≡◌, ◌∙◌, get_or, sym, arith, rules}
use Rattle.replay.specs.Printed.{newline}
use Rattle.replay.proofs.Line.{before_newline-here, found-newline, before_newline≤length}
use Rattle.replay.proofs.before_newline.Goals as goal

pub returns-in-10 : goal.returns-in-10
returns-in-10 c =
    let first : get_or c.args.bytes.now 0 0 ≡ newline = search rules in
    (sym (before_newline-here c.args.bytes.now 0 c.in-10.len_at_least first), omega arith)

pub returns-in_default : goal.returns-in_default
returns-in_default c =
    let found = c.unwrap_or.ensures ∙ found-newline c.args.bytes.now c.memchr.result c.memchr.ensures in
    (found, omega (arith, found, before_newline≤length c.args.bytes.now))
