use native.Mathlib.Omega.{arith}
use Rattle.entry.proofs.Places.{place_inside}
use Rattle.table.proofs.Table.place.Goals as goal

pub of-requires : goal.of-requires
of-requires c = let t = c.args.self.now in omega (arith, t.inside, place_inside t.version c.args.place t.places c.requires)
