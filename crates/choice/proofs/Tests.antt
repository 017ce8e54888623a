-- Laws of tests, and of deciding by one.
use Prim.Native.Nat.{ℕ, ◌≤◌, ◌<◌}
use mathlib.Core.Path.{◌≡◌, refl, sym}
use mathlib.Core.Bool.{Bool, true, false, not, ◌&&◌, ◌||◌, and-false}
use mathlib.Core.Logic.{◌⊎◌, inl, inr, ⊎_elim}
use native.Mathlib.Omega.{arith}
use native.Mathlib.Nat.{lt_of_not-le}
use lib.Dec.{leb, eqb}
use borrow.Author.Tests.{ltb-true, ltb-false, le-leb, lt-leb, leb-true, leb-false, eq-eqb, ne_eqb, eqb-true, eqb-false}
use Rattle.choice.specs.Choice.{◌<ᵇ◌, ◌≤ᵇ◌, ◌=ᵇ◌}

pub true-or-false : (t : Bool) → (t ≡ true) ⊎ (t ≡ false)
true-or-false true = inl refl
true-or-false false = inr refl

pub not-true-false : (t : Bool) → (t ≡ true → ⊥) → t ≡ false
not-true-false true never = absurd (never refl)
not-true-false false never = refl

pub lt-or-ge : (a b : ℕ) → (a < b) ⊎ (b ≤ a)
lt-or-ge a b = ⊎_elim (λ t. inl (ltb-true a b t)) (λ t. inr (ltb-false a b t)) (true-or-false (a <ᵇ b))

-- two different constructors are never equal: where a hypothesis says that they are, `cc` proves this path from it
pub false-true : {A : Type 0} → false ≡ true → A
false-true e = let z : ◌≡◌ {A = ℕ} 0 1 = cc in absurd (omega arith)

pub true-&& : (s t : Bool) → s ≡ true → t ≡ true → s && t ≡ true
true-&& s t p q = rw (p, q)

pub &&-true : (s t : Bool) → s && t ≡ true → (s ≡ true) × (t ≡ true)
&&-true true t e = (refl, e)
&&-true false t e = false-true e

pub ||-true : (s t : Bool) → s || t ≡ true → (s ≡ true) ⊎ (t ≡ true)
||-true true t e = inl refl
||-true false t e = inr e

pub ||-false : (s t : Bool) → s || t ≡ false → (s ≡ false) × (t ≡ false)
||-false true t e = false-true (sym e)
||-false false t e = (refl, e)

pub not-||-true : (s t : Bool) → not s || t ≡ true → s ≡ true → t ≡ true
not-||-true true t e _ = e
not-||-true false t e f = false-true f

-- A number between two

pub true-between : (low high b : ℕ) → low ≤ b → b ≤ high → (low ≤ᵇ b) && (b ≤ᵇ high) ≡ true
true-between low high b p q = simp (le-leb low b, le-leb b high)

pub not-between-below : (low high b : ℕ) → b < low → (low ≤ᵇ b) && (b ≤ᵇ high) ≡ false
not-between-below low high b p = simp (lt-leb low b)

pub not-between-above : (low high b : ℕ) → high < b → (low ≤ᵇ b) && (b ≤ᵇ high) ≡ false
not-between-above low high b p = simp (lt-leb b high, and-false)

pub between-true : (low high b : ℕ) → (low ≤ᵇ b) && (b ≤ᵇ high) ≡ true → (low ≤ b) × (b ≤ high)
between-true low high b e =
    let h = &&-true (low ≤ᵇ b) (b ≤ᵇ high) e in (leb-true low b h.0, leb-true b high h.1)

-- Tests that ask for the same thing have the same value

pub nle-leb : (a b : ℕ) → (a ≤ b → ⊥) → leb a b ≡ false
nle-leb a b not = lt-leb a b (lt_of_not-le not)

-- one comparison that holds exactly where two others do
pub leb≡both : (x y a b c d : ℕ) → (x ≤ y → (a ≤ b) × (c ≤ d)) → (a ≤ b → c ≤ d → x ≤ y) → leb x y ≡ (leb a b && leb c d)
leb≡both x y a b c d to from = sym (go (leb a b) refl (leb c d) refl)
  where
    go : (t : Bool) → leb a b ≡ t → (u : Bool) → leb c d ≡ u → (t && u) ≡ leb x y
    go true p true q = sym (le-leb x y (from (leb-true a b p) (leb-true c d q)))
    go true p false q = sym (nle-leb x y (λ (h : x ≤ y). let k = (to h).1 in omega (arith, leb-false c d q)))
    go false p u q = sym (nle-leb x y (λ (h : x ≤ y). let k = (to h).0 in omega (arith, leb-false a b p)))

-- two equality tests of which each implies the other
pub eqb≡eqb : (x y a b : ℕ) → (x ≡ y → a ≡ b) → (a ≡ b → x ≡ y) → eqb x y ≡ eqb a b
eqb≡eqb x y a b to from = go (eqb x y) refl
  where
    go : (t : Bool) → eqb x y ≡ t → eqb x y ≡ eqb a b
    go true e = rw (e, eq-eqb a b (to (eqb-true x y e)))
    go false e = rw (e, ne_eqb a b (λ (h : a ≡ b). eqb-false x y e (from h)))

-- a number that is 0 exactly where a test holds
pub eqb-0≡test : (r : ℕ) (t : Bool) → (r ≡ 0 → t ≡ true) × (t ≡ true → r ≡ 0) → (r =ᵇ 0) ≡ t
eqb-0≡test r true h = eq-eqb r 0 (h.1 refl)
eqb-0≡test r false h = ne_eqb r 0 (λ e. false-true (h.0 e))
