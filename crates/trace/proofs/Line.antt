-- Laws of lines: which byte may stand where, and that a line and what it says make each other.
use Prim.Native.Nat.{ℕ, zero, suc, ◌+◌, ◌*◌, ◌/◌, ◌%◌, ◌-◌, ◌^◌, ◌≤◌, ◌<◌}
use mathlib.Core.Path.{◌≡◌, refl, sym, ap, ◌∙◌}
use mathlib.Core.Bool.{true, ◌||◌}
use mathlib.Core.Logic.{◌⊎◌, inl, inr, ⊎_elim}
use mathlib.Core.List.{List, [], ◌∷◌, ◌++◌, append_assoc}
use native.Mathlib.Omega.{arith}
use native.Mathlib.Nat.{zero-add}
use lib.ListN.{length, get_or, take, drop, length-append, length-drop, take-append-drop}
use lib.Seq.{take_at, drop_at, drop-drop, drop-cons, take_all}
use borrow.Author.Tests.{ne_eqb, eqb-true}
use Rattle.choice.specs.Choice.{when◌then◌else◌, ◌=ᵇ◌}
use Rattle.choice.proofs.Choice.{when-true, when-false}
use Rattle.choice.proofs.Tests.{||-true}
use Rattle.octets.specs.Octets.{Octets}
use Rattle.octets.specs.Digits.{digits}
use Rattle.octets.proofs.Digits.{length-tabulate, tabulate-cong, tabulate-get_or}
use Rattle.trace.specs.Hex.{is_hex, hex_digit, hex_number, hex_digits, hex_pairs}
use Rattle.trace.specs.Line.{may_stand, LegalLine, LegalValues, line_side, line_clock, packet_length, line_packet, line_of}
use Rattle.trace.proofs.Each.{Each, each_none, each-one, each_append, each-tabulate, each-get_or}
use Rattle.trace.proofs.Hex.{is_hex-hex_digit, length-hex_digits, hex_digits-suc, hex_number-hex_digits, hex_number<16^n, hex_digits-hex_number, length-hex_pairs, hex_pairs-drop, drop-hex_pairs, hex_pairs-tabulate}

-- Which byte may stand where

pub may_stand-side : (b : ℕ) → may_stand 0 b ≡ (b =ᵇ 48) || (b =ᵇ 49)
unfolding may_stand
may_stand-side b = when-true _ _ _ refl

side-stands : (side : ℕ) → side < 2 → may_stand 0 (48 + side) ≡ true
unfolding may_stand when◌then◌else◌
side-stands zero h = refl
side-stands (suc zero) h = refl
side-stands (suc (suc side)) h = absurd (omega arith)

stands-side : (b : ℕ) → may_stand 0 b ≡ true → (48 ≤ b) × (b ≤ 49)
stands-side b h =
    ⊎_elim (λ (e : (b =ᵇ 48) ≡ true). let z = eqb-true b 48 e in (omega arith, omega arith))
    (λ (e : (b =ᵇ 49) ≡ true). let z = eqb-true b 49 e in (omega arith, omega arith))
    (||-true (b =ᵇ 48) (b =ᵇ 49) (sym (may_stand-side b) ∙ h))

pub may_stand-space : (i b : ℕ) → (i ≡ 1) ⊎ (i ≡ 14) → may_stand i b ≡ (b =ᵇ 32)
unfolding may_stand
may_stand-space i b here =
    ⊎_elim (λ e. rw e (when-false _ _ _ refl ∙ when-true _ _ _ refl)) (λ e. rw e (when-false _ _ _ refl ∙ when-true _ _ _ refl)) here

pub may_stand-hex : (i b : ℕ) → 2 ≤ i → (i ≡ 14 → ⊥) → may_stand i b ≡ is_hex b
unfolding may_stand
may_stand-hex i b past other =
    when-false _ _ _ (ne_eqb i 0 (λ e. omega arith))
    ∙ when-false _ _ _ (simp (ne_eqb i 1 (λ e. omega arith), ne_eqb i 14 other))

abbrev Hex : ℕ → ℕ → Type 0
Hex i b = is_hex b ≡ true

-- may stand, as a property of place and byte
abbrev pub Stand : ℕ → ℕ → Type 0
Stand i b = may_stand i b ≡ true

each-hex_digits : (at n v : ℕ) → Each Hex at (hex_digits n v)
unfolding hex_digits digits
each-hex_digits at zero v = each_none Hex at
each-hex_digits at (suc n) v =
    rw (hex_digits-suc n v)
    (each_append Hex at n (hex_digits n (v / 16)) (hex_digit (v % 16) ∷ []) (length-hex_digits n (v / 16)) (each-hex_digits at n (v / 16))
    (each-one Hex (at + n) (hex_digit (v % 16)) (is_hex-hex_digit (v % 16) (omega arith))))

each-hex_pairs : (at : ℕ) (bs : List ℕ) → Each Hex at (hex_pairs bs)
unfolding hex_pairs
each-hex_pairs at [] = each_none Hex at
each-hex_pairs at (b ∷ bs) =
    each_append Hex at 2 (hex_digits 2 b) (hex_pairs bs) (length-hex_digits 2 b) (each-hex_digits at 2 b) (each-hex_pairs (at + 2) bs)

-- The line that says side, clock and packet

module _ (side clock : ℕ) (packet : List ℕ) where
  pub length-line_of : length (line_of side clock packet) ≡ 15 + 2 * length packet
  unfolding line_of
  length-line_of =
      simp (length-append, length-hex_digits, length-hex_pairs) (omega arith)

  pub line_side-line_of : line_side (line_of side clock packet) ≡ side
  unfolding line_side line_of
  line_side-line_of = omega arith

  pub line_clock-line_of : clock < 2 ^ 48 → line_clock (line_of side clock packet) ≡ clock
  unfolding line_clock line_of
  line_clock-line_of fits =
      hex_number-hex_digits 12 clock (line_of side clock packet) 2 fits
      (take_at (hex_digits 12 clock) (32 ∷ hex_pairs packet) 12 (length-hex_digits 12 clock))

  pub packet_length-line_of : packet_length (line_of side clock packet) ≡ length packet
  unfolding packet_length
  packet_length-line_of = rw length-line_of (omega arith)

  drop-15-line_of : drop 15 (line_of side clock packet) ≡ hex_pairs packet
  unfolding line_of
  drop-15-line_of =
      rw (← append_assoc (hex_digits 12 clock) (32 ∷ []) (hex_pairs packet))
      (drop_at (hex_digits 12 clock ++ (32 ∷ [])) (hex_pairs packet) 13 (length-append (hex_digits 12 clock) (32 ∷ []) ∙ rw (length-hex_digits 12 clock)))

  pair-line_of : (i : ℕ) → i < length packet → take 2 (drop (15 + 2 * i) (line_of side clock packet)) ≡ hex_digits 2 (get_or packet i 0)
  pair-line_of i h =
      rw (← drop-drop (2 * i) 15 (line_of side clock packet), drop-15-line_of, drop-hex_pairs packet i (omega arith), hex_pairs-drop packet i h)
      (take_at (hex_digits 2 (get_or packet i 0)) (hex_pairs (drop (i + 1) packet)) 2 (length-hex_digits 2 (get_or packet i 0)))

  pub line_packet-line_of : Octets packet → line_packet (line_of side clock packet) ≡ packet
  unfolding line_packet
  line_packet-line_of each =
      rw packet_length-line_of
      (tabulate-cong (λ i. hex_number (line_of side clock packet) (15 + 2 * i) 2) (λ i. get_or packet (0 + i) 0) (length packet)
      (λ i h. rw zero-add (hex_number-hex_digits 2 (get_or packet i 0) (line_of side clock packet) (15 + 2 * i) (each i) (pair-line_of i h)))
      ∙ tabulate-get_or packet 0 (length packet) (omega arith)
      ∙ take_all (length packet) packet (omega arith))

  each-line_of : side < 2 → Each Stand 0 (line_of side clock packet)
  unfolding line_of may_stand when◌then◌else◌
  each-line_of known =
      each_append Stand 0 1 ((48 + side) ∷ []) (32 ∷ hex_digits 12 clock ++ (32 ∷ hex_pairs packet)) refl (each-one Stand 0 (48 + side) (side-stands side known))
      (each_append Stand 1 1 (32 ∷ []) (hex_digits 12 clock ++ (32 ∷ hex_pairs packet)) refl (each-one Stand 1 32 refl)
      (each_append Stand 2 12 (hex_digits 12 clock) (32 ∷ hex_pairs packet) (length-hex_digits 12 clock)
      (λ i h. may_stand-hex (2 + i) (get_or (hex_digits 12 clock) i 0) (omega arith) (λ e. omega (arith, rw (length-hex_digits 12 clock) at h)) ∙ each-hex_digits 2 12 clock i h)
      (each_append Stand 14 1 (32 ∷ []) (hex_pairs packet) refl (each-one Stand 14 32 refl)
      (λ i h. may_stand-hex (15 + i) (get_or (hex_pairs packet) i 0) (omega arith) (λ e. omega arith) ∙ each-hex_pairs 15 packet i h))))

pub line_of-legal : (side clock : ℕ) (packet : List ℕ) → LegalValues side clock packet → LegalLine (line_of side clock packet) (length packet)
line_of-legal side clock packet legal =
    record {
      some = legal.some;
      most = legal.most;
      whole = length-line_of side clock packet;
      each = λ i h. rw zero-add at (each-line_of side clock packet legal.side_known i h);
    }

-- What a legal line says

fields : (l : List ℕ) → 15 ≤ length l → l ≡ get_or l 0 0 ∷ get_or l 1 0 ∷ take 12 (drop 2 l) ++ (get_or l 14 0 ∷ drop 15 l)
fields l h =
    drop-cons l 0 0 (omega arith)
    ∙ ap (λ (k : List ℕ). get_or l 0 0 ∷ k)
    (drop-cons l 1 0 (omega arith)
    ∙ ap (λ (k : List ℕ). get_or l 1 0 ∷ k)
    (sym (take-append-drop 12 (drop 2 l))
    ∙ ap (λ (k : List ℕ). take 12 (drop 2 l) ++ k) (drop-drop 12 2 l ∙ drop-cons l 14 0 (omega arith))))

module _ (l : List ℕ) (n : ℕ) (legal : LegalLine l n) where
  pub line_side-legal : (48 ≤ get_or l 0 0) × (get_or l 0 0 ≤ 49)
  line_side-legal = stands-side (get_or l 0 0) (legal.each 0 (omega arith))

  space : (i : ℕ) → i < length l → (i ≡ 1) ⊎ (i ≡ 14) → get_or l i 0 ≡ 32
  space i inside here = eqb-true (get_or l i 0) 32 (sym (may_stand-space i (get_or l i 0) here) ∙ legal.each i inside)

  hex : (i : ℕ) → i < length l → 2 ≤ i → (i ≡ 14 → ⊥) → is_hex (get_or l i 0) ≡ true
  hex i inside past other = sym (may_stand-hex i (get_or l i 0) past other) ∙ legal.each i inside

  clock-legal : hex_digits 12 (line_clock l) ≡ take 12 (drop 2 l)
  unfolding line_clock
  clock-legal = hex_digits-hex_number l 2 12 (omega arith) (λ i h. hex (2 + i) (omega arith) (omega arith) (λ e. omega arith))

  pub packet_length-legal : packet_length l ≡ n
  unfolding packet_length
  packet_length-legal = rw legal.whole (omega arith)

  pub length-line_packet : length (line_packet l) ≡ n
  unfolding line_packet
  length-line_packet = length-tabulate (λ i. hex_number l (15 + 2 * i) 2) (packet_length l) ∙ packet_length-legal

  pair-legal : (i : ℕ) → i < n → hex_digits 2 (hex_number l (15 + 2 * i) 2) ≡ take 2 (drop (2 * i) (drop 15 l))
  pair-legal i h =
      rw (drop-drop (2 * i) 15 l)
      (hex_digits-hex_number l (15 + 2 * i) 2 (omega (arith, legal.whole))
      (λ j g. hex (15 + 2 * i + j) (omega (arith, legal.whole)) (omega arith) (λ e. omega arith)))

  packet-legal : hex_pairs (line_packet l) ≡ drop 15 l
  unfolding line_packet
  packet-legal =
      rw packet_length-legal
      (hex_pairs-tabulate (λ i. hex_number l (15 + 2 * i) 2) (drop 15 l) n pair-legal
      ∙ take_all (2 * n) (drop 15 l) (simp length-drop (omega (arith, legal.whole))))

  -- written again, it is the same line
  pub line_of-legal-line : line_of (line_side l) (line_clock l) (line_packet l) ≡ l
  unfolding line_of line_side
  line_of-legal-line =
      let side : 48 + (get_or l 0 0 - 48) ≡ get_or l 0 0 = omega (arith, line_side-legal) in
      let spaced = rw (space 1 (omega arith) (inl refl), space 14 (omega arith) (inr refl)) at (fields l (omega arith)) in
      rw (side, clock-legal, packet-legal) (sym spaced)

  pub legal-line-values : LegalValues (line_side l) (line_clock l) (line_packet l)
  unfolding line_side line_clock line_packet
  legal-line-values =
      record {
        side_known = omega (arith, line_side-legal);
        clock_fits = hex_number<16^n l 2 12;
        some = rw length-line_packet legal.some;
        most = rw length-line_packet legal.most;
        each =
            each-get_or (λ b. b < 256) (line_packet l)
            (each-tabulate (λ i b. b < 256) (λ i. hex_number l (15 + 2 * i) 2) (packet_length l) (λ i h. hex_number<16^n l (15 + 2 * i) 2))
            (omega arith);
      }
