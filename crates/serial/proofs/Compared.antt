-- What the derived `==`, `<=` and `max` of places and counts give.
use Rattle.std.proofs.Common.{◌≡◌, refl, arith}
use Rattle.std.proofs.lemmas.Bool.Decides.{nat_tests}
use Rattle.std.specs.Ordering.{ord_max, partial_le}
use Rattle.serial.specs.Serial.{same_seq, same_count, larger, at_most}
use Rattle.serial.specs.contracts.SeqNumPartialEq.TheImpl as place_eq
use Rattle.serial.specs.contracts.OctetCountPartialEq.TheImpl as count_eq
use Rattle.serial.specs.contracts.OctetCountPartialOrd.TheImpl as count_partial_ord
use Rattle.serial.specs.contracts.OctetCountOrd.TheImpl as count_ord
use Rattle.serial.specs.declared.SeqNum.{SeqNum}
use Rattle.serial.specs.declared.OctetCount.{OctetCount}

pub equal_places : (a b : SeqNum) → place_eq.eq-value.it a b ≡ same_seq a b
equal_places a b = refl

pub equal_counts : (m n : OctetCount) → count_eq.eq-value.it m n ≡ same_count m n
equal_counts m n = refl

pub count_at_most : (m n : OctetCount) → partial_le count_partial_ord.partial_cmp-value.it m n ≡ at_most m n
count_at_most m n = grind (arith, nat_tests)

pub larger_count : (m n : OctetCount) → ord_max count_ord.cmp-value.it m n ≡ larger m n
larger_count m n = grind (arith, nat_tests)
