use Rattle.std.proofs.Common.{◌≡◌, take}
use Rattle.std.specs.Io.KnownBytes.{Appends}
use Rattle.script.specs.Output.{with_bytes, all_put}
use Rattle.script.proofs.Output.put_bytes.Given as goal

-- the bytes so far are put
abbrev pub invariant-loop-b : goal.invariant-loop-b
invariant-loop-b g l = record {
  held : l.self.held.items ≡ with_bytes l.initial.self.held.items (take l.b-index l.bytes);
  written : Appends (all_put g.W.Write.contents l.initial.self) (all_put g.W.Write.contents l.self) (take l.b-index l.bytes);
}
