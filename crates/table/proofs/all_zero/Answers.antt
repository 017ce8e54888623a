use Prim.Native.Nat.{◌+◌}
use mathlib.Core.Path.{◌≡◌, sym, ap, ◌∙◌}
use mathlib.Core.List.{◌++◌}
use native.Mathlib.Omega.{arith}
use lib.ListN.{length, length-append}
use Rattle.std.specs.Slice.Iter.{chunks_exact_rest}
use Rattle.table.proofs.Zeros.{told, zeros-append, zeros-before, zeros-after, no-octets, zero-word, word-of-zeros, or-left, or-right, or-none}
use Rattle.table.proofs.all_zero.Goals as goal

pub loop-word-preserved : goal.loop-word-preserved
loop-word-preserved c =
    let before = c.loop-word.invariant in
    let old = chunks_exact_rest c.loop-word.word-iterator in
    let new = chunks_exact_rest c.next.new.self in
    let word = c.in-Some.word.now in
    let parts : old ≡ word ++ new = c.in-Some.ensures.steps.1.0 in
    let eight : length word ≡ 8 = omega (arith, c.in-Some.ensures.steps) in
    let sizes : length old ≡ length word + length new = ap length parts ∙ length-append word new in
    record {
      size = omega (arith, c.in-Some.ensures.steps);
      whole = omega (arith, before.whole);
      zero = λ e rest. before.zero (or-left _ _ e)
          (rw parts (zeros-append word new (zero-word word eight (sym c.read_be-any.ensures ∙ or-right _ _ e)) rest));
      none = λ all. let left = before.none all in
          let both = rw parts at left.1 in
          (or-none _ _ left.0 (c.read_be-any.ensures ∙ word-of-zeros word (zeros-before word new both)), zeros-after word new both);
    }

pub returns : goal.returns
returns c =
    let i = c.loop-word.invariant in
    let none : length (chunks_exact_rest c.loop-word.word-iterator) ≡ 0 = omega (arith, i.whole, i.size, c.in-None.ensures.steps) in
    told _ _ (λ e. i.zero e (no-octets _ none), λ all. (i.none all).0)
