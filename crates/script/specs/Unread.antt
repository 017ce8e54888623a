-- What an input has left.
use Rattle.std.specs.Prelude.{ℕ, List, slice_range, Option}
use Rattle.std.specs.Io.KnownBytes.{prepend_known}
use Rattle.script.specs.declared.Lines.{Lines}

-- what is still to be given: the rest of the piece, and then what the reader has left
abbrev pub unread : {R : Type 0} → (R → Option (List ℕ)) → Lines R → Option (List ℕ)
unread remaining lines = prepend_known (slice_range lines.piece lines.at lines.have) (remaining lines.reader)
