-- Two rounds add every carry in, where there are few enough octets.
use mathlib.Core.Path.{sym, ◌∙◌}
use native.Mathlib.Omega.{arith}
use Rattle.choice.proofs.Choice.{when-<-not}
use Rattle.checksum.specs.Sum.{ones_sum}
use Rattle.checksum.specs.Reduced.{fold}
use Rattle.checksum.proofs.Reduced.{reduced-fold, fold≡reduced}
use Rattle.sums.proofs.WordSum.{ones_sum≡reduced-words}
use Rattle.sums.specs.Sums.{sum_or_none}
use Rattle.sums.proofs.sum_by_words.Goals as goal

pub returns-else-s-gt65535 : goal.returns-else-s-gt65535
unfolding fold sum_or_none
returns-else-s-gt65535 c =
    let s = c.args.s.now in
    let sum = c.word_sum-sum.result in
    fold≡reduced (fold sum) (omega arith)
    ∙ reduced-fold sum
    ∙ rw c.word_sum-sum.ensures.0 (sym (ones_sum≡reduced-words s λ i. (c.type_inv.s i).fits))
    ∙ sym (when-<-not {a = 65535} 65536 (ones_sum s) c.if-s-gt65535.false)
