-- Laws of a line in a piece: its bytes up to the newline are kept, as many as there is room for.
use Rattle.std.proofs.Common.{◌≡◌, ℕ, zero, suc, ◌+◌, ◌-◌, ◌<◌, ◌≤◌, min, true, false, List, [], ◌∷◌, length, get_or, take, drop, set, sym, refl, ap, ◌∙◌, ⊎_elim, add-one, arith, length-set, drop_of_length-le, take_all, drop-cons, eqb-true}
use borrow.Author.Tests.{eq-eqb, eqb-false}
use native.Mathlib.Nat.{zero-add}
use Rattle.std.proofs.Common.{Option, Some, None}
use Rattle.std.specs.Option.{unwrap_or}
use Rattle.memchr.specs.Find.{is_byte, IsFirstByte}
use Rattle.choice.specs.Choice.{◌=ᵇ◌}
use Rattle.choice.proofs.Choice.{when-true, when-false, when-cases, when-either, when-<, when-<-not, when-=, when-=-not}
use Rattle.choice.proofs.Tests.{true-or-false, lt-or-ge}
use Rattle.octets.specs.Overwrite.{overwrite}
use Rattle.octets.proofs.Overwrite.{overwrite-nothing, set≡overwrite, overwrite-join}
use Rattle.replay.specs.Printed.{newline}
use Rattle.replay.specs.Feed.{Memory, memory, with_kept, with_byte, with_line, after_byte, after_piece, before_newline, with_fitting}

-- The first newline

-- a byte that is one
pub before_newline-here : (l : List ℕ) (i : ℕ) → i < length l → get_or l i 0 ≡ newline → before_newline (drop i l) ≡ 0
unfolding before_newline
before_newline-here l i inside e = rw (drop-cons l i 0 inside) (when-= _ _ e)

-- a byte that is none: the first one is the first after it
pub before_newline-next :
    (l : List ℕ) (i : ℕ) → i < length l → (get_or l i 0 ≡ newline → ⊥) →
    i + before_newline (drop i l) ≡ i + 1 + before_newline (drop (i + 1) l)
unfolding before_newline
before_newline-next l i inside e =
    rw (drop-cons l i 0 inside, add-one) (omega (arith, when-=-not 0 (suc (before_newline (drop (suc i) l))) e))

-- and so for a block of bytes
pub before_newline-block :
    (n : ℕ) (l : List ℕ) (i : ℕ) → i + n ≤ length l → ((k : ℕ) → k < n → get_or l (i + k) 0 ≡ newline → ⊥) →
    i + before_newline (drop i l) ≡ i + n + before_newline (drop (i + n) l)
before_newline-block zero l i fits none = let e : i + 0 ≡ i = omega arith in rw e
before_newline-block (suc n) l i fits none =
    let here : i + 0 ≡ i = omega arith in
    let next : i + 1 + n ≡ i + suc n = omega arith in
    let step = before_newline-block n l (i + 1) (omega arith) (λ k h. let e : i + 1 + k ≡ i + suc k = omega arith in rw e (none (suc k) (omega arith))) in
    before_newline-next l i (omega arith) (rw here at (none 0 (omega arith))) ∙ rw next at step

-- past the end there is none
pub before_newline-end : (l : List ℕ) (i : ℕ) → length l ≤ i → before_newline (drop i l) ≡ 0
unfolding before_newline
before_newline-end l i past = rw (drop_of_length-le l past)

-- the search finds it
pub found-newline : (l : List ℕ) (r : Option ℕ) → IsFirstByte (is_byte newline) l r → unwrap_or r (length l) ≡ before_newline l
found-newline l None none =
    let past = rw (zero-add, zero-add) at (before_newline-block (length l) l 0 (omega arith) (λ k h e. none k (omega arith) (omega arith) (eq-eqb _ _ (rw zero-add at e)))) in
    omega (arith, past, before_newline-end l (length l) (omega arith))
found-newline l (Some k) first =
    let past = rw (zero-add, zero-add) at (before_newline-block k l 0 (omega (arith, first.0.high)) (λ j h e. first.0.before j (omega arith) h (eq-eqb _ _ (rw zero-add at e)))) in
    omega (arith, past, before_newline-here l k first.0.high (eqb-true _ _ first.1))

pub before_newline≤length : (l : List ℕ) → before_newline l ≤ length l
unfolding before_newline
before_newline≤length [] = omega arith
before_newline≤length (b ∷ l) = when-either (λ n. n ≤ length (b ∷ l)) (b =ᵇ newline) 0 (suc (before_newline l)) (omega arith) (omega (arith, before_newline≤length l))

-- One more byte

-- where there is room
pub with_byte-room :
    (m : Memory) (b : ℕ) → m.progress.kept < length m.line →
    with_byte m b ≡ memory m.table (set m.line m.progress.kept b) m.out (with_kept m.progress (m.progress.kept + 1))
unfolding with_byte
with_byte-room m b inside = when-< _ _ inside

-- and where there is none
pub with_byte-full : (m : Memory) (b : ℕ) → length m.line ≤ m.progress.kept → with_byte m b ≡ m
unfolding with_byte
with_byte-full m b full = when-<-not _ _ full

-- The bytes of a line

-- one byte after the other
with_bytes : Memory → List ℕ → Memory
with_bytes m [] = m
with_bytes m (b ∷ bytes) = with_bytes (with_byte m b) bytes

-- a full buffer stays as it is
with_bytes-full : (m : Memory) (bytes : List ℕ) → length m.line ≤ m.progress.kept → with_bytes m bytes ≡ m
unfolding with_bytes
with_bytes-full m [] full = refl
with_bytes-full m (b ∷ bytes) full = rw (with_byte-full m b full) (with_bytes-full m bytes full)

-- nothing more is kept
kept-nothing :
    (m : Memory) (n : ℕ) → n ≡ m.progress.kept →
    m ≡ memory m.table (overwrite m.line m.progress.kept []) m.out (with_kept m.progress n)
kept-nothing m n e = rw (overwrite-nothing m.line m.progress.kept, e)

-- in a buffer with room for so many they stand where it was used up to, those that there is no room for left out
with_bytes-room :
    (m : Memory) (room : ℕ) (bytes : List ℕ) → m.progress.kept + room ≡ length m.line →
    with_bytes m bytes ≡ memory m.table (overwrite m.line m.progress.kept (take room bytes)) m.out (with_kept m.progress (m.progress.kept + length (take room bytes)))
unfolding with_bytes
with_bytes-room m zero bytes e = with_bytes-full m bytes (omega arith) ∙ kept-nothing m _ (omega arith)
with_bytes-room m (suc room) [] e = kept-nothing m _ (omega arith)
with_bytes-room m (suc room) (b ∷ bytes) e =
    let l = m.line in
    let k = m.progress.kept in
    let inside : k < length l = omega arith in
    let next = memory m.table (set l k b) m.out (with_kept m.progress (k + 1)) in
    let whole : overwrite (set l k b) (k + 1) (take room bytes) ≡ overwrite l k (b ∷ take room bytes) =
    rw (set≡overwrite l k b inside) (overwrite-join l k 1 (b ∷ []) (take room bytes) refl (omega arith)) in
    let count : k + 1 + length (take room bytes) ≡ k + suc (length (take room bytes)) = omega arith in
    rw (with_byte-room m b inside) (with_bytes-room next room bytes (simp length-set (omega arith)) ∙ rw (whole, count))

-- as many of some bytes as there are, and there is room for, are those that there is room for
pub take_min : (n : ℕ) (l : List ℕ) → take (min n (length l)) l ≡ take n l
take_min n l =
    ⊎_elim
    (λ (less : n < length l). let e : min n (length l) ≡ n = omega arith in rw e)
    (λ (more : length l ≤ n). take_all (min n (length l)) l (omega arith) ∙ sym (take_all n l more))
    (lt-or-ge n (length l))

-- A piece up to a newline

-- a piece of no bytes changes nothing
pub after_piece-none : (m : Memory) → after_piece m [] ≡ m
unfolding after_piece
after_piece-none m = refl

-- a newline as the first byte ends the line
pub after_piece-at-newline : (m : Memory) (b : ℕ) (bytes : List ℕ) → b ≡ newline → after_piece m (b ∷ bytes) ≡ after_piece (with_line m) bytes
unfolding after_piece after_byte
after_piece-at-newline m b bytes e = ap (λ n. after_piece n bytes) (when-= _ _ e)

-- any other is kept
pub after_piece-at-other :
    (m : Memory) (b : ℕ) (bytes : List ℕ) → (b ≡ newline → ⊥) →
    after_piece m (b ∷ bytes) ≡ after_piece (with_byte m b) bytes
unfolding after_piece after_byte
after_piece-at-other m b bytes e = ap (λ n. after_piece n bytes) (when-=-not _ _ e)

-- all bytes before the first newline are kept
after_piece-kept :
    (m : Memory) (bytes : List ℕ) →
    after_piece m bytes ≡ after_piece (with_bytes m (take (before_newline bytes) bytes)) (drop (before_newline bytes) bytes)
unfolding before_newline with_bytes
after_piece-kept m [] = refl
after_piece-kept m (b ∷ bytes) =
    ⊎_elim (λ (t : b =ᵇ newline ≡ true). rw (when-true (b =ᵇ newline) 0 (suc (before_newline bytes)) t))
    (λ (t : b =ᵇ newline ≡ false).
    rw (when-false (b =ᵇ newline) 0 (suc (before_newline bytes)) t)
    (after_piece-at-other m b bytes (eqb-false b newline t) ∙ after_piece-kept (with_byte m b) bytes))
    (true-or-false (b =ᵇ newline))

-- the bytes of a piece up to a newline or the end are kept
pub after_piece-line :
    (m : Memory) (piece : List ℕ) (end : ℕ) → m.progress.kept ≤ length m.line → end ≡ before_newline piece →
    after_piece m piece ≡ after_piece (with_fitting m (take end piece)) (drop end piece)
after_piece-line m piece end inside is =
    after_piece-kept m piece ∙ rw (← is, with_bytes-room m (length m.line - m.progress.kept) (take end piece) (omega arith))

-- nothing is left at the end of a piece
pub after_piece-end : (m : Memory) (piece : List ℕ) (end : ℕ) → length piece ≤ end → after_piece m (drop end piece) ≡ m
after_piece-end m piece end past = rw (drop_of_length-le piece past) (after_piece-none m)

-- where the bytes before a newline end, it stands
newline-there : (l : List ℕ) → before_newline l < length l → get_or l (before_newline l) 0 ≡ newline
unfolding before_newline
newline-there [] inside = absurd (omega arith)
newline-there (b ∷ l) inside =
    when-cases (λ k. k < suc (length l) → get_or (b ∷ l) k 0 ≡ newline) (b =ᵇ newline) 0 (suc (before_newline l)) (λ e _. eqb-true b newline e)
    (λ _ h. newline-there l (omega arith)) inside

-- and the newline ends the line
pub after_piece-newline :
    (m : Memory) (piece : List ℕ) (end : ℕ) → end ≡ before_newline piece → end < length piece →
    after_piece m (drop end piece) ≡ after_piece (with_line m) (drop (end + 1) piece)
after_piece-newline m piece end is inside =
    let byte : get_or piece end 0 ≡ newline = rw (← is) at (newline-there piece (omega arith)) in
    ap (after_piece m) (drop-cons piece end 0 inside)
    ∙ after_piece-at-newline m (get_or piece end 0) (drop (suc end) piece) byte
    ∙ ap (λ i. after_piece (with_line m) (drop i piece)) (sym (add-one end))
