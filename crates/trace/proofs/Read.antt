-- Laws of reading: the first illegal byte, well-formed lines, and each answer of `read_line`.
use Prim.Native.Nat.{ℕ, zero, suc, ◌+◌, ◌-◌, ◌%◌, ◌≤◌, ◌<◌, min}
use mathlib.Core.Path.{◌≡◌, refl, sym, ap, ◌∙◌}
use mathlib.Core.Bool.{Bool, true, false, ◌&&◌}
use mathlib.Core.Logic.{⊎_elim}
use mathlib.Core.List.{List, [], ◌∷◌}
use native.Mathlib.Omega.{arith}
use native.Mathlib.Nat.{zero-add}
use lib.ListN.{length, get_or, take, drop, length-drop}
use lib.Seq.{length-take-le, get_or-take, get_or-drop, drop-cons}
use Rattle.std.proofs.Common.{Ok, Err, Option, Some, None, cond, not, max, fold, position, nat_lt, ltb-false, drop_of_length-le}
use Rattle.std.specs.Option.{unwrap_or}
use Rattle.std.specs.List.{position_or_len, enumerate_from}
use Rattle.std.proofs.lemmas.List.Sums.{prefix_len-le-length}
use Rattle.std.proofs.lemmas.List.Quantifiers.{position-Some}
use Rattle.std.proofs.lemmas.List.FromFn.{length-enumerate_from}
use Rattle.std.proofs.lemmas.Bool.Decides.{nat_tests}
use borrow.Author.Tests.{lt-ltb, le-ltb, le-leb, leb-true, eq-eqb, ne_eqb, eqb-true}
use Rattle.choice.specs.Choice.{when◌then◌else◌, ◌≤ᵇ◌, ◌=ᵇ◌}
use Rattle.choice.proofs.Choice.{when-true, when-false}
use Rattle.choice.proofs.Tests.{lt-or-ge, false-true, &&-true}
use Rattle.trace.specs.Hex.{is_hex}
use Rattle.trace.specs.Line.{may_stand, LegalLine, line_side, line_clock, packet_length}
use Rattle.trace.specs.Read.{illegal_from, first_illegal, HexFrom, well_formed, frame, read_line}
use Rattle.trace.specs.declared.ReadLineError.TheVariants.{TooLong, Malformed, NoRoom}
use Rattle.trace.proofs.Line.{packet_length-legal}

-- Hex digits from a position on

-- no byte is worse than a hex digit
pub hex-worst :
    (l : List ℕ) (w : ℕ) → fold (λ v b. max v (cond (is_hex b) 0 1)) w l ≡ 0 → (w ≡ 0) × HexFrom l 0 (length l)
hex-worst [] w e = (e, λ k low high. absurd (omega arith))
hex-worst (b ∷ l) w e =
    let rest = hex-worst l (max w (cond (is_hex b) 0 1)) e in (
      omega (arith, rest.0),
      λ k low high. hex-head b l w rest.0 rest.1 k high,
    )
  where
    hex-head :
        (b : ℕ) (l : List ℕ) (w : ℕ) → max w (cond (is_hex b) 0 1) ≡ 0 → HexFrom l 0 (length l) → (k : ℕ) → k < length (b ∷ l) →
        is_hex (get_or (b ∷ l) k 0) ≡ true
    hex-head b l w e all zero h = grind (arith, nat_tests)
    hex-head b l w e all (suc k) h = all k (omega arith) (omega arith)

past-14 : (k b : ℕ) → 15 ≤ k → is_hex b ≡ true → may_stand k b ≡ true
unfolding may_stand
past-14 k b h hex =
    when-false _ _ _ (ne_eqb k 0 (λ (e : k ≡ 0). omega arith))
    ∙ when-false _ _ _ (rw (ne_eqb k 1 (λ (e : k ≡ 1). omega arith), ne_eqb k 14 (λ (e : k ≡ 14). omega arith)))
    ∙ hex

-- r is the first of the places from i up to end whose byte may not stand there, or end
record First (l : List ℕ) (i end r : ℕ) : Type 0 where
  from : i ≤ r
  upto : r ≤ end
  before : (j : ℕ) → i ≤ j → j < r → may_stand j (get_or l j 0) ≡ true
  here : r < end → may_stand r (get_or l r 0) ≡ false

first_step :
    (l : List ℕ) (i end r : ℕ) (t : Bool) → may_stand i (get_or l i 0) ≡ t → i < end → First l (i + 1) end r →
    First l i end (when t then r else i)
unfolding when◌then◌else◌
first_step l i end r true e h f =
    record {
      from = omega (arith, f.from);
      upto = f.upto;
      before = λ j p q. ⊎_elim (λ (g : i < j). f.before j (omega arith) q)
          (λ (g : j ≤ i). let s : j ≡ i = omega arith in rw s e) (lt-or-ge i j);
      here = f.here;
    }
first_step l i end r false e h f =
    record { from = omega arith; upto = omega arith; before = λ j p q. absurd (omega arith); here = λ g. e }

illegal_from-first : (l : List ℕ) (i end k : ℕ) → i + k ≡ end → First l i end (illegal_from l i k)
unfolding illegal_from
illegal_from-first l i end zero e =
    record { from = omega arith; upto = omega arith; before = λ j p q. absurd (omega arith); here = λ g. absurd (omega arith) }
illegal_from-first l i end (suc k) e =
    first_step l i end (illegal_from l (i + 1) k) (may_stand i (get_or l i 0)) refl (omega arith)
    (illegal_from-first l (i + 1) end k (omega arith))

module _ (l : List ℕ) where
  first_illegal-first : First l 0 (length l) (first_illegal l)
  unfolding first_illegal
  first_illegal-first = illegal_from-first l 0 (length l) (length l) (omega arith)

  pub first_illegal≤length : first_illegal l ≤ length l
  first_illegal≤length = first_illegal-first.upto

  pub first_illegal-before : (i : ℕ) → i < first_illegal l → may_stand i (get_or l i 0) ≡ true
  first_illegal-before i h = first_illegal-first.before i (omega arith) h

  pub first_illegal-here : first_illegal l < length l → may_stand (first_illegal l) (get_or l (first_illegal l) 0) ≡ false
  first_illegal-here = first_illegal-first.here

  -- an illegal byte in a part from the front is the line's first
  pub illegal-in-part : (end : ℕ) → end ≤ length l → illegal_from l 0 end < end → illegal_from l 0 end ≡ first_illegal l
  illegal-in-part end short found =
      let f = illegal_from-first l 0 end end (omega arith) in
      let r = illegal_from l 0 end in
      ⊎_elim (λ (h : r < first_illegal l). false-true (sym (f.here found) ∙ first_illegal-before r h))
      (λ (h : first_illegal l ≤ r).
      ⊎_elim (λ (g : first_illegal l < r). false-true (sym (first_illegal-here (omega (arith, g, found))) ∙ f.before (first_illegal l) (omega arith) g))
      (λ (g : r ≤ first_illegal l). omega (arith, g, h)) (lt-or-ge (first_illegal l) r)) (lt-or-ge r (first_illegal l))

  first_illegal≡length : ((i : ℕ) → i < length l → may_stand i (get_or l i 0) ≡ true) → first_illegal l ≡ length l
  first_illegal≡length each =
      ⊎_elim (λ (h : first_illegal l < length l). false-true (sym (first_illegal-here h) ∙ each (first_illegal l) h))
      (λ (h : length l ≤ first_illegal l). omega (arith, first_illegal≤length)) (lt-or-ge (first_illegal l) (length l))

-- The first illegal byte by the library's search

-- a byte that may not stand where it stands
abbrev pub may_not_stand : ℕ × ℕ → Bool
may_not_stand p = not (may_stand p.0 p.1)

abbrev pub illegal_position : List ℕ → Option ℕ
illegal_position l = position may_not_stand (enumerate_from 0 l)

position_or_len-illegal :
    (l rest : List ℕ) (i k : ℕ) → rest ≡ drop i l → i + k ≡ length l →
    i + position_or_len may_not_stand (enumerate_from i rest) ≡ illegal_from l i k
unfolding illegal_from when◌then◌else◌
position_or_len-illegal l rest i zero is e =
    let past : length l ≤ i = omega arith in rw (is, drop_of_length-le l past) (omega arith)
position_or_len-illegal l rest i (suc k) is e =
    let one : suc i ≡ i + 1 = omega arith in
    let next : drop (suc i) l ≡ drop (i + 1) l = ap (λ (j : ℕ). drop j l) one in
    rw (is, drop-cons l i 0 (omega arith)) (go (may_stand i (get_or l i 0)) (position_or_len-illegal l (drop (suc i) l) (i + 1) k next (omega arith)))
  where
    go :
        (t : Bool) → i + 1 + position_or_len may_not_stand (enumerate_from (i + 1) (drop (suc i) l)) ≡ illegal_from l (i + 1) k →
        i + cond (not (not t)) (1 + position_or_len may_not_stand (enumerate_from (i + 1) (drop (suc i) l))) 0 ≡ (when t then illegal_from l (i + 1) k else i)
    go true e = omega (arith, e)
    go false e = omega arith

position-or-length : {X : Type 0} (p : X → Bool) (xs : List X) → unwrap_or (position p xs) (length xs) ≡ position_or_len p xs
position-or-length p xs = go (nat_lt (position_or_len p xs) (length xs)) refl
  where
    go : (t : Bool) → nat_lt (position_or_len p xs) (length xs) ≡ t → unwrap_or (cond t (Some (position_or_len p xs)) None) (length xs) ≡ position_or_len p xs
    go true e = refl
    go false e = omega (arith, ltb-false (position_or_len p xs) (length xs) e, prefix_len-le-length (λ x. not (p x)) xs)

pub illegal_position-or-length : (l : List ℕ) → unwrap_or (illegal_position l) (length l) ≡ first_illegal l
unfolding first_illegal
illegal_position-or-length l =
    ap (unwrap_or (illegal_position l)) (sym (length-enumerate_from {X = ℕ} 0 l)) ∙ position-or-length may_not_stand (enumerate_from 0 l)
    ∙ rw zero-add at (position_or_len-illegal l l 0 (length l) refl (omega arith))

illegal_from-take : (l : List ℕ) (n i k : ℕ) → i + k ≤ n → illegal_from (take n l) i k ≡ illegal_from l i k
unfolding illegal_from
illegal_from-take l n i zero h = refl
illegal_from-take l n i (suc k) h = rw (get_or-take n l i 0 (omega arith), illegal_from-take l n (i + 1) k (omega arith))

-- a byte that the search finds in a part from the front is the line's first illegal one
pub illegal_position-in-part : (l : List ℕ) (n i : ℕ) → n ≤ length l → illegal_position (take n l) ≡ Some i → i ≡ first_illegal l
unfolding first_illegal
illegal_position-in-part l n i short found =
    let size : length (take n l) ≡ n = length-take-le n l short in
    let here : i ≡ illegal_from l 0 n = rw (found, size) at (illegal_position-or-length (take n l)) ∙ illegal_from-take l n 0 n (omega arith) in
    let inside = (position-Some may_not_stand (enumerate_from 0 (take n l)) i (0, 0) found).0 in
    here ∙ illegal-in-part l n short (omega (arith, here, size, inside, length-enumerate_from {X = ℕ} 0 (take n l)))

-- every byte of the head may stand where it stands, and the rest are hex digits
pub all-legal :
    (l : List ℕ) (n : ℕ) → n ≡ min (length l) 15 → illegal_position (take n l) ≡ None → HexFrom (drop n l) 0 (length (drop n l)) →
    first_illegal l ≡ length l
all-legal l n is head rest =
    let size : length (take n l) ≡ n = length-take-le n l (omega arith) in
    let none : n ≡ first_illegal (take n l) = sym size ∙ rw head at (illegal_position-or-length (take n l)) in
    first_illegal≡length l (λ i h.
    ⊎_elim
    (λ (g : i < n). rw (get_or-take n l i 0 g) at (first_illegal-before (take n l) i (omega arith)))
    (λ (g : n ≤ i).
    let there : n + (i - n) ≡ i = omega arith in
    past-14 i _ (omega arith) (rw (get_or-drop n l (i - n) 0, there) at (rest (i - n) (omega arith) (rw (length-drop n l) (omega arith)))))
    (lt-or-ge i n))

-- Well-formed lines

pub well_formed-true : (l : List ℕ) → first_illegal l ≡ length l → 17 ≤ length l → length l % 2 ≡ 1 → well_formed l ≡ true
unfolding well_formed
well_formed-true l all long odd = simp (eq-eqb (first_illegal l) (length l) all, le-leb 17 (length l) long, eq-eqb (length l % 2) 1 odd)

pub legal-well_formed : (l : List ℕ) (n : ℕ) → LegalLine l n → well_formed l ≡ true
legal-well_formed l n legal =
    well_formed-true l (first_illegal≡length l legal.each) (omega arith) (omega arith)

pub well_formed-legal : (l : List ℕ) → length l ≤ 4111 → well_formed l ≡ true → LegalLine l (packet_length l)
unfolding well_formed packet_length
well_formed-legal l short e =
    let a = &&-true (first_illegal l =ᵇ length l) ((17 ≤ᵇ length l) && (length l % 2 =ᵇ 1)) e in
    let b = &&-true (17 ≤ᵇ length l) (length l % 2 =ᵇ 1) a.1 in
    let long = leb-true 17 (length l) b.0 in
    let odd = eqb-true (length l % 2) 1 b.1 in
    let all = eqb-true (first_illegal l) (length l) a.0 in
    record {
      some = omega arith;
      most = omega arith;
      whole = omega arith;
      each = λ i h. first_illegal-before l i (omega arith);
    }

-- Each answer

module _ (l : List ℕ) (room : ℕ) where
  pub read_line-too-long : 4111 < length l → read_line l room ≡ Err TooLong
  unfolding read_line
  read_line-too-long h = when-true _ _ _ (lt-ltb 4111 (length l) h)

  pub read_line-malformed : length l ≤ 4111 → well_formed l ≡ false → read_line l room ≡ Err (Malformed (first_illegal l))
  unfolding read_line
  read_line-malformed h e = when-false _ _ _ (le-ltb 4111 (length l) h) ∙ when-true _ _ _ (rw e)

  pub read_line-no-room : length l ≤ 4111 → well_formed l ≡ true → room < packet_length l → read_line l room ≡ Err NoRoom
  unfolding read_line
  read_line-no-room h e less =
      when-false _ _ _ (le-ltb 4111 (length l) h) ∙ when-false _ _ _ (rw e) ∙ when-true _ _ _ (lt-ltb room (packet_length l) less)

  pub read_line-frame :
      length l ≤ 4111 → well_formed l ≡ true → packet_length l ≤ room →
      read_line l room ≡ Ok (frame (line_side l) (line_clock l) (packet_length l))
  unfolding read_line
  read_line-frame h e fits =
      when-false _ _ _ (le-ltb 4111 (length l) h) ∙ when-false _ _ _ (rw e) ∙ when-false _ _ _ (le-ltb room (packet_length l) fits)

pub read_line-legal : (l : List ℕ) (n room : ℕ) → LegalLine l n → n ≤ room → read_line l room ≡ Ok (frame (line_side l) (line_clock l) n)
read_line-legal l n room legal fits =
    rw (packet_length-legal l n legal) at
    (read_line-frame l room (omega arith) (legal-well_formed l n legal) (rw (packet_length-legal l n legal) fits))
