-- The offset of refusal 22: up to it the bytes can be a line's beginning, and with the byte at it they cannot.
use Prim.Native.Nat.{ℕ, ◌+◌, ◌≤◌, ◌<◌}
use mathlib.Core.Path.{◌≡◌, sym, ap, ◌∙◌}
use mathlib.Core.Bool.{true}
use mathlib.Core.Logic.{⊎_elim}
use mathlib.Core.List.{List, ◌++◌}
use native.Mathlib.Omega.{arith}
use native.Mathlib.Nat.{zero-add}
use Rattle.std.proofs.Common.{Err}
use lib.ListN.{length, get_or, take, drop, length-append, length-take, length-drop, replicate, length-replicate, get_or-replicate}
use lib.Seq.{length-take-le, get_or-take, get_or-drop, take-append_seam}
use Rattle.choice.proofs.Tests.{true-or-false, lt-or-ge, false-true}
use Rattle.trace.specs.Line.{may_stand, LegalLine, packet_length, line_of}
use Rattle.trace.specs.Read.{first_illegal, well_formed, read_line}
use Rattle.trace.specs.Offset.{PossibleBefore, ImpossibleAt, RefusedBy22}
use Rattle.trace.specs.declared.ReadLineError.TheVariants.{Malformed}
use Rattle.trace.proofs.Each.{Each, each_append, each-get_or}
use Rattle.trace.proofs.Line.{Stand, line_of-legal}
use Rattle.trace.proofs.Read.{first_illegal≤length, first_illegal-before, first_illegal-here, legal-well_formed, well_formed-legal, read_line-malformed, read_line-no-room, read_line-frame}

-- A legal line that begins with given bytes

zeros-legal : (n : ℕ) → 1 ≤ n → n ≤ 2048 → LegalLine (line_of 0 0 (replicate n 0)) n
zeros-legal n some most =
    let size = length-replicate {A = ℕ} n 0 in
    rw size at
    (line_of-legal 0 0 (replicate n 0)
    record {
      side_known = omega arith;
      clock_fits = omega arith;
      some = omega arith;
      most = omega arith;
      each = each-get_or (λ b. b < 256) (replicate n 0) (λ i h. rw (get_or-replicate {A = ℕ} n i 0 0 (rw size at h)) (omega arith)) (omega arith);
    })

-- bytes that may stand, written over the beginning of a legal line, leave it legal
begun-legal :
    (l m : List ℕ) (n k : ℕ) → LegalLine m n → k ≤ length l → k ≤ length m → ((i : ℕ) → i < k → may_stand i (get_or l i 0) ≡ true) →
    LegalLine (take k l ++ drop k m) n
begun-legal l m n k legal inside fits stand =
    let size = length-take-le k l inside in
    let back : Each Stand (0 + k) (drop k m) =
    λ i h. rw (zero-add, get_or-drop k m i 0) (legal.each (k + i) (omega (arith, rw (length-drop k m) at h))) in
    record {
      some = legal.some;
      most = legal.most;
      whole = simp (length-append, length-drop) (omega (arith, legal.whole));
      each = λ i h. rw zero-add at
          (each_append Stand 0 k (take k l) (drop k m) size
          (λ i h. let g : i < k = omega arith in rw (zero-add, get_or-take k l i 0 g) (stand i g)) back i h);
    }

legal-not-malformed : (l : List ℕ) (n room offset : ℕ) → LegalLine l n → read_line l room ≡ Err (Malformed offset) → ⊥
legal-not-malformed l n room offset legal refused =
    let well = legal-well_formed l n legal in
    ⊎_elim
    (λ (less : room < packet_length l).
    let e = read_line-no-room l room (omega arith) well less in false-true cc)
    (λ (fits : packet_length l ≤ room).
    let e = read_line-frame l room (omega arith) well fits in false-true cc)
    (lt-or-ge room (packet_length l))

-- The theorems

-- a legal line begins with the bytes before the offset
pub possible-before : PossibleBefore
possible-before l short =
    let m = line_of 0 0 (replicate 2048 0) in
    let legal = zeros-legal 2048 (omega arith) (omega arith) in
    let within = first_illegal≤length l in
    record {
      line = take (first_illegal l) l ++ drop (first_illegal l) m;
      n = 2048;
      legal = begun-legal l m 2048 (first_illegal l) legal within (omega (arith, legal.whole)) (first_illegal-before l);
      begin = take-append_seam (take (first_illegal l) l) (drop (first_illegal l) m);
    }

-- no legal line begins with these bytes and the one at the offset
pub impossible-at : ImpossibleAt
impossible-at l inside b =
    let k = first_illegal l in
    let size : length (take (k + 1) l) ≡ k + 1 = length-take-le (k + 1) l (omega arith) in
    let same : take (k + 1) b.line ≡ take (k + 1) l = rw size at b.begin in
    let byte : get_or b.line k 0 ≡ get_or l k 0 =
    sym (get_or-take (k + 1) b.line k 0 (omega arith)) ∙ ap (λ (m : List ℕ). get_or m k 0) same ∙ get_or-take (k + 1) l k 0 (omega arith) in
    let long : k < length b.line = omega (arith, sym (length-take (k + 1) b.line) ∙ ap length same ∙ size) in
    false-true (sym (first_illegal-here l inside) ∙ ap (may_stand k) (sym byte) ∙ b.legal.each k long)

-- a line that is not too long is refused by 22, with this offset, where it is not legal and only there
pub refused-22 : RefusedBy22
refused-22 l room short = (
  λ none. ⊎_elim (λ (e : well_formed l ≡ true). absurd (none (packet_length l) (well_formed-legal l short e)))
      (read_line-malformed l room short) (true-or-false (well_formed l)),
  λ refused n legal. legal-not-malformed l n room (first_illegal l) legal refused,
)
