use native.Mathlib.Omega.{arith}
use Rattle.entry.proofs.Places.{header-first}
use Rattle.table.proofs.Table.clock.Goals as goal

pub read_be-requires : goal.read_be-requires
read_be-requires c = let t = c.args.self.now in omega (arith, header-first t.version t.places, t.inside)
