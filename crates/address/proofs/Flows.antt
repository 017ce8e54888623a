-- The test of equality of addresses and ports decides it.
use mathlib.Core.Path.{◌≡◌, refl}
use mathlib.Core.Bool.{true}
use borrow.Author.Tests.{eq-eqb, eqb-true}
use Rattle.choice.specs.Choice.{◌=ᵇ◌}
use Rattle.choice.proofs.Tests.{&&-true}
use Rattle.address.specs.Flows.{same_address, same_endpoint, same_flow}
use Rattle.address.specs.declared.Address.{Address}
use Rattle.address.specs.declared.Endpoint.{Endpoint}
use Rattle.address.specs.declared.Flow.{Flow}

address-refl : (x : Address) → same_address x x ≡ true
address-refl x = rw (eq-eqb x.low x.low refl, eq-eqb x.high x.high refl)

address-true : (x y : Address) → same_address x y ≡ true → x ≡ y
address-true x y same =
    let a = &&-true (x.low =ᵇ y.low) _ same in
    let low = eqb-true _ _ a.0 in
    let high = eqb-true _ _ a.1 in
    λ i. record { high = high i; low = low i }

endpoint-refl : (x : Endpoint) → same_endpoint x x ≡ true
endpoint-refl x = rw (address-refl x.address, eq-eqb x.port x.port refl)

endpoint-true : (x y : Endpoint) → same_endpoint x y ≡ true → x ≡ y
endpoint-true x y same =
    let a = &&-true (same_address x.address y.address) _ same in
    let p = address-true _ _ a.0 in
    let q = eqb-true _ _ a.1 in
    λ i. record { address = p i; port = q i }

pub same_refl : (k : Flow) → same_flow k k ≡ true
unfolding same_flow
same_refl k = rw (endpoint-refl k.from, endpoint-refl k.to)

pub same_true : (j k : Flow) → same_flow j k ≡ true → j ≡ k
unfolding same_flow
same_true j k same =
    let a = &&-true (same_endpoint j.from k.from) _ same in
    let p = endpoint-true _ _ a.0 in
    let q = endpoint-true _ _ a.1 in
    λ i. record { from = p i; to = q i }
