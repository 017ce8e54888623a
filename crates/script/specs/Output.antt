-- Output that is collected, up to 65,536 bytes: where so many are held they are written, and the collecting begins again.
use Rattle.std.specs.Prelude.{ℕ, List, [], ◌∷◌, ◌++◌, length}
use Rattle.std.specs.Io.KnownBytes.{append_known}
use Rattle.std.specs.declared.option.Option.{Option}
use Rattle.choice.specs.Choice.{when◌then◌else◌, ◌<ᵇ◌}
use Rattle.script.specs.declared.Output.{Output}

-- the bytes held after one more
unfoldable pub with_byte : List ℕ → ℕ → List ℕ
with_byte held byte = when length held <ᵇ 65536 then held ++ (byte ∷ []) else byte ∷ []

-- and after more bytes
unfoldable pub with_bytes : List ℕ → List ℕ → List ℕ
with_bytes held [] = held
with_bytes held (byte ∷ bytes) = with_bytes (with_byte held byte) bytes

-- all bytes so far, where it is known what the writer has: those, and then those that are held
abbrev pub all_put : {W : Type 0} → (W → Option (List ℕ)) → Output W → Option (List ℕ)
all_put contents out = append_known (contents out.writer) out.held.items
