-- In each arm the octets of the version that it is for.
use mathlib.Core.Path.{refl, sym, ap, ◌∙◌}
use native.Mathlib.Omega.{arith}
use Rattle.octets.specs.Overwrite.{overwrite}
use Rattle.octets.proofs.Overwrite.{overwrite-both}
use Rattle.octets.proofs.BigEndian.{length-octets_of}
use Rattle.address.specs.Address.{address_size, address_octets}
use Rattle.address.specs.declared.Version.{Version}
use Rattle.address.proofs.Laws.{octets_of-rest}
use Rattle.address.proofs.write_address.Goals as goal

pub returns-in-V4 : goal.returns-in-V4
returns-in-V4 c =
    let a = c.args in
    let octets = sym (octets_of-rest a.address.low) ∙ ap (λ (v : Version). address_octets v a.address) (sym c.in-V4.is) in
    c.write_be.ensures ∙ ap (overwrite a.s.now a.at) octets

pub returns-in-V6 : goal.returns-in-V6
returns-in-V6 c =
    let a = c.args in
    let is = c.in-V6.is in
    overwrite-both _ _ _ _ c.write_be-in-V6.ensures c.write_be-in-V6-2.ensures (length-octets_of 8 _) refl (omega (arith, ap address_size is))
    ∙ ap (λ (v : Version). overwrite a.s.now a.at (address_octets v a.address)) (sym is)
