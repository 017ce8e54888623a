-- What is left to combine: the words that are still to come.
use Prim.Native.Nat.{◌%◌}
use mathlib.Core.Path.{◌≡◌}
use lib.ListN.{length}
use Rattle.std.specs.Slice.Iter.{chunks_exact_rest, chunks_exact_size}
use Rattle.table.proofs.Zeros.{AllZero}
use Rattle.table.proofs.all_zero.Given as goal

abbrev pub invariant-loop-word : goal.invariant-loop-word
invariant-loop-word l =
    let rest = chunks_exact_rest l.word-iterator in
    record {
      size : chunks_exact_size l.word-iterator ≡ 8;
      whole : length rest % 8 ≡ 0;
      zero : l.any ≡ 0 → AllZero rest → AllZero l.octets;
      none : AllZero l.octets → (l.any ≡ 0) × AllZero rest;
    }
