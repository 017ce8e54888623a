-- What is left to add: the words that are still to come, at the end of the octets, and an odd octet.
use Prim.Native.Nat.{◌+◌, ◌-◌, ◌*◌, ◌%◌, ◌≤◌}
use mathlib.Core.Path.{◌≡◌}
use lib.ListN.{length, drop}
use Rattle.std.specs.Slice.Iter.{chunks_exact_rest, chunks_exact_size}
use Rattle.sums.specs.Sums.{word_sum}
use Rattle.sums.proofs.word_sum.Given as goal

abbrev pub invariant-loop-word : goal.invariant-loop-word
invariant-loop-word l =
    let rest = chunks_exact_rest l.word-iterator in
    record {
      size : chunks_exact_size l.word-iterator ≡ 2;
      there : rest ≡ drop (length l.s - length rest) l.s;
      even : length rest % 2 ≡ length l.s % 2;
      small : l.sum + 32768 * length rest ≤ 32768 * length l.s;
      total : l.sum + word_sum rest ≡ word_sum l.s;
    }
