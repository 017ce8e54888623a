-- The place of a match is one of the table's.
use Rattle.std.proofs.Common.{◌∙◌, sym, arith}
use Rattle.rows.proofs.Places.{found-passes}
use Rattle.filter.proofs.Arrival.on_table.Goals as goal

pub load-requires : goal.load-requires
load-requires c = let h = (found-passes _ _ _ _ (sym c.find.ensures ∙ c.in-Some.is)).2 in omega (arith, h)
