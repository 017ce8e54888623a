-- Bytes past total length are ignored, since the packet reader ignores them.
use mathlib.Core.Path.{ap}
use Rattle.address.specs.declared.Version.TheVariants.{V4}
use Rattle.packet.proofs.Ignored.{past-total-ignored}
use Rattle.filter.specs.Call.{outcome_of}
use Rattle.filter.specs.Ignored.{PastTotalIgnoredByCall}

pub past-total-ignored-by-call : PastTotalIgnoredByCall
past-total-ignored-by-call side clock t p past whole given = ap (outcome_of V4 side clock t) (past-total-ignored p past whole given)
