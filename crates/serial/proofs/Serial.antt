-- The further of two sequence numbers is the larger of their places on the line.
use Rattle.std.proofs.Common.{◌≡◌, ℕ, ◌+◌, ◌-◌, ◌*◌, ◌/◌, ◌^◌, ◌<◌, ◌≤◌, max, sym, ap, ◌∙◌, arith}
use Rattle.serial.specs.Ring.{wrap, nearest}
use Rattle.serial.specs.Serial.{seq_at, further}
use Rattle.serial.specs.declared.SeqNum.{SeqNum}
use Rattle.serial.proofs.Ring.{wrap-small, wrap-turns, wrap-nearest, nearest-is}

-- seen from B's sequence number a turn up, a place near B stands lower by B's whole turns
turned : (B Z : ℕ) → B ≤ Z + 2 ^ 31 → Z < B + 2 ^ 31 → nearest (wrap B + 2 ^ 32) (wrap Z) ≡ Z + 2 ^ 32 - B / 2 ^ 32 * 2 ^ 32
unfolding wrap
turned B Z near near' =
    sym ((nearest-is (wrap B + 2 ^ 32) (wrap Z) _ (omega arith) (wrap-small Z)).1 (wrap-turns Z (B / 2 ^ 32) (omega arith), omega arith, omega arith))

pub further-wrap :
    (B X Y : ℕ) → B ≤ X + 2 ^ 31 → X < B + 2 ^ 31 → B ≤ Y + 2 ^ 31 → Y < B + 2 ^ 31 →
    further (seq_at B) (seq_at X) (seq_at Y) ≡ seq_at (max X Y)
unfolding further
further-wrap B X Y a b c d =
    let turns = B / 2 ^ 32 in
    let top : max (X + 2 ^ 32 - turns * 2 ^ 32) (Y + 2 ^ 32 - turns * 2 ^ 32) ≡ max X Y + 2 ^ 32 - turns * 2 ^ 32 = omega arith in
    let e = (λ i. max (turned B X a b i) (turned B Y c d i)) ∙ top in
    λ i. record { 0 = (ap wrap e ∙ wrap-turns (max X Y) turns (omega arith)) i }

-- one of the two that stands where the larger does
pub further_is :
    (base a b x : SeqNum) → x.0 < 2 ^ 32 →
    max (nearest (base.0 + 2 ^ 32) a.0) (nearest (base.0 + 2 ^ 32) b.0) ≡ nearest (base.0 + 2 ^ 32) x.0 →
    further base a b ≡ x
unfolding further
further_is base a b x fits top =
    λ i. record { 0 = (ap wrap top ∙ wrap-nearest (base.0 + 2 ^ 32) x.0 (omega arith) fits) i }
