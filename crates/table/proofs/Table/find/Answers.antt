use Rattle.std.proofs.Common.{rules}
use Rattle.table.proofs.Places.{first_is}
use Rattle.table.proofs.Table.find.Goals as goal

pub returns : goal.returns
returns c = first_is _ _ _ (λ p b given. search rules) _ c.first_place.ensures
