use mathlib.Core.Path.{refl}
use native.Mathlib.Omega.{arith}
use Rattle.octets.proofs.Overwrite.{overwrite-both}
use Rattle.octets.proofs.BigEndian.{length-octets_of}
use Rattle.entry.specs.Layout.{end_bytes}
use Rattle.entry.proofs.store_end.Goals as goal

pub returns : goal.returns
unfolding end_bytes
returns c =
    let third = c in
    let second = third in
    let first = second in
    let tail = overwrite-both _ _ _ _ second.write_be-2.ensures third.write_be-3.ensures (length-octets_of 4 _) (omega arith) (omega arith) in
    overwrite-both _ _ _ _ first.write_be.ensures tail (length-octets_of 4 _) refl (omega arith)
