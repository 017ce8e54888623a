use mathlib.Core.Path.{refl}
use native.Mathlib.Omega.{arith}
use Rattle.octets.proofs.Overwrite.{overwrite-both}
use Rattle.octets.proofs.BigEndian.{length-octets_of}
use Rattle.entry.specs.Layout.{numbers_bytes}
use Rattle.entry.proofs.Sizes.{length-end_bytes}
use Rattle.entry.proofs.store_numbers.Goals as goal

pub returns : goal.returns
unfolding numbers_bytes
returns c =
    let third = c in
    let second = third in
    let first = second in
    let ends = overwrite-both _ _ _ _ second.store_end.ensures third.store_end-2.ensures (length-end_bytes _) (omega arith) (omega arith) in
    overwrite-both _ _ _ _ first.write_be.ensures ends (length-octets_of 8 _) refl (omega arith)
