-- Laws of a number's digits as characters, for every base; `char` gives the character of a digit.
use Prim.Native.Nat.{ℕ, suc, ◌+◌, ◌-◌, ◌/◌, ◌%◌, ◌≤◌, ◌<◌}
use mathlib.Core.Path.{◌≡◌, sym, ap, ◌∙◌}
use mathlib.Core.List.{List, [], ◌∷◌, ◌++◌, map, map-append}
use native.Mathlib.Omega.{arith}
use lib.ListN.{length, set, length-map}
use Rattle.octets.specs.Digits.{digits}
use Rattle.octets.specs.Overwrite.{overwrite}
use Rattle.octets.proofs.Digits.{length_digits}
use Rattle.octets.proofs.Overwrite.{overwrite-set}

module _ (char : ℕ → ℕ) (base : ℕ) where
  pub length-map-digits : (n v : ℕ) → length (map char (digits base n v)) ≡ n
  length-map-digits n v = length-map (digits base n v) char ∙ length_digits base n v

  -- the last character is the remainder's, and those before it are the quotient's
  pub map-digits-suc : (n v : ℕ) → map char (digits base (suc n) v) ≡ map char (digits base n (v / base)) ++ (char (v % base) ∷ [])
  unfolding digits
  map-digits-suc n v = map-append char (digits base n (v / base)) (v % base ∷ [])

  -- the last character, stored first, leaves those before it to be written
  pub overwrite-map-digits :
      (l : List ℕ) (at i v : ℕ) → 0 < i → at + i ≤ length l →
      overwrite (set l (at + (i - 1)) (char (v % base))) at (map char (digits base (i - 1) (v / base))) ≡ overwrite l at (map char (digits base i v))
  overwrite-map-digits l at i v some fits =
      let e : suc (i - 1) ≡ i = omega arith in
      overwrite-set l at (i - 1) (char (v % base)) (map char (digits base (i - 1) (v / base))) (length-map-digits (i - 1) (v / base)) (omega arith)
      ∙ ap (overwrite l at) (rw e at (sym (map-digits-suc (i - 1) v)))
