use Rattle.std.proofs.Common.{◌≡◌, take}
use Rattle.std.specs.Io.KnownBytes.{Appends}
use Rattle.script.specs.Output.{with_bytes, all_put}
use Rattle.script.specs.Fields.{spaced}
use Rattle.script.proofs.Output.put_fields.Given as goal

-- the numbers so far are put, each after a space
abbrev pub invariant-loop-v : goal.invariant-loop-v
invariant-loop-v g l = record {
  held : l.self.held.items ≡ with_bytes l.initial.self.held.items (spaced (take l.v-index l.rest));
  written : Appends (all_put g.W.Write.contents l.initial.self) (all_put g.W.Write.contents l.self) (spaced (take l.v-index l.rest));
}
