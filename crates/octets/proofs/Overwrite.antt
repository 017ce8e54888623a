-- Laws of writing over a part of a list.
use Prim.Native.Nat.{ℕ, suc, ◌+◌, ◌-◌, ◌≤◌, ◌<◌}
use mathlib.Core.Path.{◌≡◌, refl, sym, ap, ◌∙◌}
use mathlib.Core.List.{List, [], ◌∷◌, ◌++◌, append_assoc, append-nil}
use native.Mathlib.Omega.{arith}
use native.Mathlib.Nat.{add-zero, zero-add}
use native.Mathlib.Numerals.{add-one}
use lib.ListN.{length, get_or, take, drop, set, length-append, length-drop, take-append-drop}
use lib.Seq.{get_or-take, get_or-drop, length-take-le, take_at, drop_at, drop-drop, drop-length, set_split, take-set-le, take-suc, take-add, take-append_seam}
use Rattle.octets.specs.Digits.{tabulate}
use Rattle.octets.specs.Overwrite.{overwrite}
use Rattle.octets.proofs.Digits.{length-tabulate}

pub overwrite-nothing : (l : List ℕ) (at : ℕ) → overwrite l at [] ≡ l
unfolding overwrite
overwrite-nothing l at = rw add-zero (take-append-drop at l)

-- all of it
pub overwrite-all : (l vs : List ℕ) → length vs ≡ length l → overwrite l 0 vs ≡ vs
unfolding overwrite
overwrite-all l vs size = rw (zero-add, size, drop-length, append-nil)

-- a part that was lent, and came back as vs
pub part≡overwrite : (l : List ℕ) (at n : ℕ) (vs : List ℕ) → length vs ≡ n → take at l ++ (vs ++ drop n (drop at l)) ≡ overwrite l at vs
unfolding overwrite
part≡overwrite l at n vs size = rw (size, drop-drop n at l)

-- one store
pub set≡overwrite : (l : List ℕ) (at v : ℕ) → at < length l → set l at v ≡ overwrite l at (v ∷ [])
unfolding overwrite
set≡overwrite l at v h = rw add-one (set_split l at v h)

module _ (l : List ℕ) (at : ℕ) (vs : List ℕ) (fits : at + length vs ≤ length l) where
  before : length (take at l) ≡ at
  before = length-take-le at l (omega arith)

  pub length-overwrite : length (overwrite l at vs) ≡ length l
  unfolding overwrite
  length-overwrite = simp (length-append, length-drop) (omega (arith, before))

  pub take-overwrite : take at (overwrite l at vs) ≡ take at l
  unfolding overwrite
  take-overwrite = take_at (take at l) (vs ++ drop (at + length vs) l) at before

  -- what was written is there
  pub overwrite-there : take (length vs) (drop at (overwrite l at vs)) ≡ vs
  unfolding overwrite
  overwrite-there =
      rw (drop_at (take at l) (vs ++ drop (at + length vs) l) at before)
      (take-append_seam vs (drop (at + length vs) l))

  pub drop-overwrite : drop (at + length vs) (overwrite l at vs) ≡ drop (at + length vs) l
  unfolding overwrite
  drop-overwrite =
      rw (← append_assoc (take at l) vs (drop (at + length vs) l))
      (drop_at (take at l ++ vs) (drop (at + length vs) l) (at + length vs)
      (length-append (take at l) vs ∙ omega (arith, before)))

  -- up to where what was written ends
  pub take-overwrite-end : take (at + length vs) (overwrite l at vs) ≡ take at l ++ vs
  unfolding overwrite
  take-overwrite-end =
      rw (← append_assoc (take at l) vs (drop (at + length vs) l))
      (take_at (take at l ++ vs) (drop (at + length vs) l) (at + length vs)
      (length-append (take at l) vs ∙ omega (arith, before)))

  -- a second part, written where the first ends
  pub overwrite-append : (ws : List ℕ) → overwrite (overwrite l at vs) (at + length vs) ws ≡ overwrite l at (vs ++ ws)
  unfolding overwrite
  overwrite-append ws =
      let sum : at + length vs + length ws ≡ at + length (vs ++ ws) = simp length-append (omega arith) in
      let tail : drop (at + length vs + length ws) (overwrite l at vs) ≡ drop (at + length (vs ++ ws)) l =
      sym (drop-drop (length ws) (at + length vs) (overwrite l at vs))
      ∙ ap (drop (length ws)) drop-overwrite
      ∙ drop-drop (length ws) (at + length vs) l
      ∙ ap (λ (k : ℕ). drop k l) sum in
      rw (take-overwrite-end, tail) (simp append_assoc)

  -- octet by octet

  pub get_or-overwrite : (k : ℕ) → k < length vs → get_or (overwrite l at vs) (at + k) 0 ≡ get_or vs k 0
  get_or-overwrite k inside =
      sym (get_or-drop at (overwrite l at vs) k 0)
      ∙ sym (get_or-take (length vs) (drop at (overwrite l at vs)) k 0 inside)
      ∙ ap (λ (p : List ℕ). get_or p k 0) overwrite-there

  pub get_or-overwrite-before : (k : ℕ) → k < at → get_or (overwrite l at vs) k 0 ≡ get_or l k 0
  get_or-overwrite-before k before =
      sym (get_or-take at (overwrite l at vs) k 0 before) ∙ ap (λ (p : List ℕ). get_or p k 0) take-overwrite ∙ get_or-take at l k 0 before

  pub get_or-overwrite-after : (k : ℕ) → at + length vs ≤ k → get_or (overwrite l at vs) k 0 ≡ get_or l k 0
  get_or-overwrite-after k after =
      let past : at + length vs + (k - (at + length vs)) ≡ k = omega arith in
      ap (λ (j : ℕ). get_or (overwrite l at vs) j 0) (sym past)
      ∙ sym (get_or-drop (at + length vs) (overwrite l at vs) (k - (at + length vs)) 0)
      ∙ ap (λ (p : List ℕ). get_or p (k - (at + length vs)) 0) drop-overwrite
      ∙ get_or-drop (at + length vs) l (k - (at + length vs)) 0
      ∙ ap (λ (j : ℕ). get_or l j 0) past

-- a second part, where the first one's length is told by an equation
pub overwrite-join :
    (l : List ℕ) (at n : ℕ) (vs ws : List ℕ) → length vs ≡ n → at + n ≤ length l →
    overwrite (overwrite l at vs) (at + n) ws ≡ overwrite l at (vs ++ ws)
overwrite-join l at n vs ws e fits = rw (← e) (overwrite-append l at vs (rw e fits) ws)

-- a write, then one just past it
pub overwrite-both :
    {mid last : List ℕ} {n next : ℕ} (l : List ℕ) (at : ℕ) (vs ws : List ℕ) → mid ≡ overwrite l at vs → last ≡ overwrite mid next ws →
    length vs ≡ n → at + n ≡ next → next ≤ length l →
    last ≡ overwrite l at (vs ++ ws)
overwrite-both {n = n} {next = next} l at vs ws first second size there fits =
    second
    ∙ ap (λ (k : List ℕ). overwrite k next ws) first
    ∙ ap (λ (k : ℕ). overwrite (overwrite l at vs) k ws) (sym there)
    ∙ overwrite-join l at n vs ws size (omega arith)

-- a store just past a part that is still to be written makes that part one longer
pub overwrite-set :
    (l : List ℕ) (at n v : ℕ) (vs : List ℕ) → length vs ≡ n → at + n < length l →
    overwrite (set l (at + n) v) at vs ≡ overwrite l at (vs ++ (v ∷ []))
unfolding overwrite
overwrite-set l at n v vs e fits =
    let head : take at (set l (at + n) v) ≡ take at l = take-set-le at l (at + n) v (omega arith) in
    let tail : drop (at + n) (set l (at + n) v) ≡ v ∷ drop (suc (at + n)) l =
    rw (set_split l (at + n) v fits)
    (drop_at (take (at + n) l) (v ∷ drop (suc (at + n)) l) (at + n) (length-take-le (at + n) l (omega arith))) in
    let end : at + length (vs ++ (v ∷ [])) ≡ suc (at + n) = simp length-append (omega arith) in
    rw (e, head, tail, end) (simp append_assoc)

-- a front that grows by one place at a time
pub overwrite-tabulate :
    (l : List ℕ) (f : ℕ → ℕ) (i : ℕ) → i < length l →
    set (overwrite l 0 (tabulate f i)) i (f i) ≡ overwrite l 0 (tabulate f (i + 1))
unfolding tabulate
overwrite-tabulate l f i h =
    let size : 0 + length (tabulate f i) ≤ length l = rw (length-tabulate f i) (omega arith) in
    set≡overwrite (overwrite l 0 (tabulate f i)) i (f i) (rw (length-overwrite l 0 (tabulate f i) size) h)
    ∙ rw add-one (rw zero-add at (overwrite-join l 0 i (tabulate f i) (f i ∷ []) (length-tabulate f i) (omega arith)))

-- a copy that grows by one element at a time
pub overwrite-take-next :
    (l xs : List ℕ) (at i : ℕ) → i < length xs → at + i < length l →
    set (overwrite l at (take i xs)) (at + i) (get_or xs i 0) ≡ overwrite l at (take (i + 1) xs)
overwrite-take-next l xs at i inside fits =
    let size : length (take i xs) ≡ i = length-take-le i xs (omega arith) in
    set≡overwrite (overwrite l at (take i xs)) (at + i) (get_or xs i 0) (rw (length-overwrite l at (take i xs) (omega arith)) (omega arith))
    ∙ overwrite-join l at i (take i xs) (get_or xs i 0 ∷ []) size (omega arith)
    ∙ ap (overwrite l at) (rw add-one (sym (take-suc xs i 0 inside)))

-- two stores, side by side
pub set-set≡overwrite : (l : List ℕ) (at v w : ℕ) → at + 2 ≤ length l → set (set l at v) (at + 1) w ≡ overwrite l at (v ∷ w ∷ [])
set-set≡overwrite l at v w fits =
    let one : set l at v ≡ overwrite l at (v ∷ []) = set≡overwrite l at v (omega arith) in
    rw (one, set≡overwrite (overwrite l at (v ∷ [])) (at + 1) w (rw (length-overwrite l at (v ∷ []) (omega arith)) (omega arith)))
    (overwrite-join l at 1 (v ∷ []) (w ∷ []) refl (omega arith))

-- four stores, side by side
pub four-sets≡overwrite :
    (l : List ℕ) (at a b c d : ℕ) → at + 4 ≤ length l →
    set (set (set (set l at a) (at + 1) b) (at + 2) c) (at + 3) d ≡ overwrite l at (a ∷ b ∷ c ∷ d ∷ [])
four-sets≡overwrite l at a b c d fits =
    let half : List ℕ = overwrite l at (a ∷ b ∷ []) in
    let first : set (set l at a) (at + 1) b ≡ half = set-set≡overwrite l at a b (omega arith) in
    let same : length half ≡ length l = length-overwrite l at (a ∷ b ∷ []) (omega arith) in
    let second : set (set half (at + 2) c) (at + 2 + 1) d ≡ overwrite half (at + 2) (c ∷ d ∷ []) =
    set-set≡overwrite half (at + 2) c d (omega (arith, same)) in
    let past : at + 2 + 1 ≡ at + 3 = omega arith in
    ap (λ (k : List ℕ). set (set k (at + 2) c) (at + 3) d) first
    ∙ ap (λ (k : ℕ). set (set half (at + 2) c) k d) (sym past)
    ∙ second
    ∙ overwrite-join l at 2 (a ∷ b ∷ []) (c ∷ d ∷ []) refl (omega arith)

-- two parts of a list that stand side by side are one part
pub part-append :
    (t : List ℕ) (n m at next : ℕ) (xs ys : List ℕ) → at + n ≡ next → xs ≡ take n (drop at t) → ys ≡ take m (drop next t) →
    xs ++ ys ≡ take (n + m) (drop at t)
part-append t n m at next xs ys there first second =
    (λ i. first i ++ second i)
    ∙ ap (λ (k : List ℕ). take n (drop at t) ++ take m k) (ap (λ (k : ℕ). drop k t) (sym there) ∙ sym (drop-drop n at t))
    ∙ sym (take-add n m (drop at t))
