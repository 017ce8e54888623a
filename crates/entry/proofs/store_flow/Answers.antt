-- Places are named within parentheses only: omega enters every record that has a name, and no more than 128.
use native.Mathlib.Omega.{arith}
use Rattle.octets.proofs.BigEndian.{length-octets_of}
use Rattle.octets.proofs.Overwrite.{overwrite-both}
use Rattle.address.proofs.Laws.{length-address_octets}
use Rattle.entry.specs.Layout.{flow_bytes}
use Rattle.entry.proofs.store_flow.Goals as goal

pub returns : goal.returns
unfolding flow_bytes
returns c =
    let v = (
    let k = c in
    k.args.version
    ) in
    let first = (let k = c in k.write_address.ensures) in
    let second = c.write_address-2.ensures in
    let third = c.write_be.ensures in
    let fourth = c.write_be-2.ensures in
    let ports = overwrite-both _ _ _ _ third fourth (length-octets_of 2 _) (omega arith) (omega arith) in
    let tail = overwrite-both _ _ _ _ second ports (length-address_octets v _) (omega arith) (omega arith) in
    overwrite-both _ _ _ _ first tail (length-address_octets v _) (omega arith) (omega arith)
