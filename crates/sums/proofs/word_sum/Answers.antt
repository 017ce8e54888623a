use Prim.Native.Nat.{ℕ, ◌+◌, ◌-◌, ◌*◌, ◌%◌, ◌<◌}
use mathlib.Core.Path.{◌≡◌, sym, ap, ◌∙◌}
use mathlib.Core.List.{List, ◌++◌}
use native.Mathlib.Omega.{arith}
use lib.ListN.{length, get_or, drop, length-append, get_or-eq_default}
use lib.Seq.{get_or-drop}
use Rattle.std.specs.Slice.Iter.{chunks_exact_rest}
use Rattle.sums.specs.Sums.{word_sum}
use Rattle.sums.proofs.WordSum.{word_sum-word, word_sum-odd, end-after-word, end-left-over}
use Rattle.sums.proofs.word_sum.Goals as goal
use Rattle.sums.proofs.word_sum.Goals.{In-None}

pub loop-word-preserved : goal.loop-word-preserved
loop-word-preserved c =
    let old = chunks_exact_rest c.loop-word.word-iterator in
    let new = chunks_exact_rest c.next.new.self in
    let word = c.in-Some.word.now in
    let parts : old ≡ word ++ new = c.in-Some.ensures.steps.1.0 in
    let two : length word ≡ 2 = omega (arith, c.in-Some.ensures.steps) in
    let sizes : length old ≡ length word + length new = ap length parts ∙ length-append word new in
    let whole : word_sum old ≡ c.read_be.result + word_sum new =
    ap word_sum parts ∙ word_sum-word word new two ∙ ap (λ (k : ℕ). k + word_sum new) (sym c.read_be.ensures) in
    record {
      size = omega (arith, c.in-Some.ensures.steps);
      there = end-after-word c.args.s.now old c.loop-word.invariant.there (omega arith) word new parts two;
      even = omega arith;
      small = omega arith;
      total = omega arith;
    }

-- what the loop leaves is the odd octet, or nothing
left-over : (c : In-None) → word_sum (chunks_exact_rest c.loop-word.word-iterator) ≡ get_or c.remainder-odd.result.now 0 0 * 256
left-over c =
    let end = chunks_exact_rest c.loop-word.word-iterator in
    let few : length end < 2 = omega (arith, c.in-None.ensures.steps) in
    let odd : c.remainder-odd.result.now ≡ end =
    c.remainder-odd.ensures
    ∙ c.chunks_exact-words.ensures.remainder
    ∙ sym (end-left-over c.args.s.now end c.loop-word.invariant.there (omega arith) few c.loop-word.invariant.even) in
    word_sum-odd end few ∙ ap (λ (l : List ℕ). get_or l 0 0 * 256) (sym odd)

pub returns-in-len1 : goal.returns-in-len1
returns-in-len1 c =
    let at = length c.args.s.now - length c.args.s.now % 2 in
    let octet : get_or (drop at c.args.s.now) 0 0 < 256 = rw get_or-drop (c.type_inv.s (at + 0)).fits in
    let same = ap (λ (l : List ℕ). get_or l 0 0) (c.remainder-odd.ensures ∙ c.chunks_exact-words.ensures.remainder) in
    (omega (arith, left-over (goal.at.returns-in-len1 c).In-None), omega (arith, same, octet))

pub returns-in_default : goal.returns-in_default
returns-in_default c =
    let none : get_or c.remainder-odd.result.now 0 0 ≡ 0 = get_or-eq_default c.remainder-odd.result.now 0 (omega arith) in
    (omega (arith, left-over (goal.at.returns-in_default c).In-None), omega arith)
