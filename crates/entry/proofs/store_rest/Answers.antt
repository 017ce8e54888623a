use Rattle.std.proofs.Common.{ap}
use Prim.Native.Nat.{ℕ, ◌+◌}
use Rattle.entry.proofs.Parts.{filled_part}
use Rattle.entry.proofs.store_rest.Goals as goal

pub returns : goal.returns
returns c =
    let a = c.args in
    filled_part _ _ _ _ _ 0 (ap (λ (n : ℕ). a.at + n) c.rest_size.ensures) c.requires (c.fill.ensures.after (λ _ e. e))
