use Rattle.std.proofs.Common.{◌≡◌, ◌^◌, ◌<◌}
use Rattle.script.specs.Fields.{decimal_field}
use Rattle.script.proofs.Fields.{read_from}
use Rattle.script.proofs.decimal_field.Given as goal

-- the number read on from v, over what is left of the field, is the field's
abbrev pub invariant-loop-c : goal.invariant-loop-c
invariant-loop-c l = (l.v < 2 ^ 64) × (decimal_field l.line l.at ≡ read_from l.line l.v l.spaces l.c-index)
