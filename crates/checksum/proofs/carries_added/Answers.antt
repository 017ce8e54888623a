-- What each round leaves, and that the third leaves 16 bits.
use Prim.Native.Nat.{◌<◌}
use mathlib.Core.Path.{◌≡◌, ap, ◌∙◌}
use native.Mathlib.Omega.{arith}
use Rattle.checksum.specs.Reduced.{fold, reduced}
use Rattle.checksum.proofs.Reduced.{reduced≤65535, reduced-fold, fold-below, fold≡reduced}
use Rattle.checksum.proofs.carries_added.Goals as goal

thrice-reduced : (c : goal.After-folded) → c.folded.result ≡ reduced c.args.sum
thrice-reduced c =
    let sum = c.args.sum in
    let once : fold sum < 1073807360 = fold-below sum 1073741824 (omega arith) in
    let second : c.folded-twice.result ≡ fold (fold sum) = grind arith in
    let twice : fold (fold sum) < 81921 = fold-below (fold sum) 16385 once in
    c.folded.ensures ∙ ap fold second ∙ fold≡reduced (fold (fold sum)) (omega arith) ∙ reduced-fold (fold sum) ∙ reduced-fold sum

pub overflow_cast-result : goal.overflow_cast-result
overflow_cast-result c = omega (arith, thrice-reduced c, reduced≤65535 c.args.sum)

pub returns : goal.returns
returns c = thrice-reduced c
