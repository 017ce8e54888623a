-- A byte of the head is illegal; or none is, and the rest are hex digits; else the search of the whole line says it.
use Rattle.std.proofs.Common.{◌≡◌, Some, None, sym, ◌-◌, ◌≤◌, length, take, drop, length-drop, take_all, arith, rules}
use Rattle.trace.proofs.Read.{illegal_position, illegal_position-or-length, illegal_position-in-part, all-legal}
use Rattle.trace.proofs.first_illegal.Goals as goal

pub returns-in-Some : goal.returns-in-Some
returns-in-Some c =
    let l = c.args.line.now in
    let found : illegal_position (take c.min-head.result l) ≡ Some c.in-Some.i = search rules in
    illegal_position-in-part l c.min-head.result c.in-Some.i (omega (arith, c.min-head.ensures)) found

pub returns-then-all_hex : goal.returns-then-all_hex
returns-then-all_hex c =
    let l = c.args.line.now in
    let none : illegal_position (take c.min-head.result l) ≡ None = search rules in
    let short : length (drop c.min-head.result l) ≤ length l - c.min-head.result = simp length-drop (omega arith) in
    sym (all-legal l c.min-head.result c.min-head.ensures none (rw (take_all _ (drop c.min-head.result l) short) at (c.all_hex.ensures c.if-all_hex.true)))

pub returns : goal.returns
returns c = let e = illegal_position-or-length c.args.line.now in search rules
