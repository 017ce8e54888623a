-- Laws of a choice: by its test, and by the fact that the test asks for.
use Prim.Native.Nat.{ℕ, ◌<◌, ◌≤◌}
use mathlib.Core.Path.{◌≡◌, refl, ap}
use mathlib.Core.Bool.{Bool, true, false, not, cond}
use borrow.Author.Tests.{lt-ltb, le-ltb, le-leb, lt-leb, eq-eqb, ne_eqb}
use Rattle.choice.specs.Choice.{when◌then◌else◌, ◌<ᵇ◌, ◌≤ᵇ◌, ◌=ᵇ◌, ◌≠ᵇ◌}

pub when-true : {A : Type 0} (t : Bool) (x y : A) → t ≡ true → (when t then x else y) ≡ x
unfolding when◌then◌else◌
when-true t x y e = rw e

pub when-false : {A : Type 0} (t : Bool) (x y : A) → t ≡ false → (when t then x else y) ≡ y
unfolding when◌then◌else◌
when-false t x y e = rw e

-- what holds of both lines holds of the one taken
pub when-either : {A : Type 0} (P : A → Type 0) (t : Bool) (x y : A) → P x → P y → P (when t then x else y)
unfolding when◌then◌else◌
when-either P true x y a b = a
when-either P false x y a b = b

-- the same, each line with what its test says
pub when-cases : {A : Type 0} (P : A → Type 0) (t : Bool) (x y : A) → (t ≡ true → P x) → (t ≡ false → P y) → P (when t then x else y)
unfolding when◌then◌else◌
when-cases P true x y a b = a refl
when-cases P false x y a b = b refl

-- and of two choices by one test
pub when-both :
    {A B : Type 0} (P : A → B → Type 0) (s t : Bool) (x y : A) (x' y' : B) → s ≡ t → (s ≡ true → P x x') → (s ≡ false → P y y') →
    P (when s then x else y) (when t then x' else y')
when-both P s t x y x' y' same taken not_taken =
    rw (← same) (when-cases (λ b. P b (when s then x' else y')) s x y (λ e. rw (when-true s x' y' e) (taken e)) (λ e. rw (when-false s x' y' e) (not_taken e)))

-- a function of a choice is the choice of its values
pub when-ap : {A B : Type 0} (f : A → B) (t : Bool) (x y : A) → f (when t then x else y) ≡ (when t then f x else f y)
unfolding when◌then◌else◌
when-ap f true x y = refl
when-ap f false x y = refl

-- equal lines after the first
pub when-else : {A : Type 0} (t : Bool) (x : A) {y z : A} → y ≡ z → (when t then x else y) ≡ (when t then x else z)
when-else t x e = rw e

-- a test that holds takes the line, one that does not goes on to the next
module _ {A : Type 0} {a b : ℕ} (x y : A) where
  pub when-< : a < b → (when a <ᵇ b then x else y) ≡ x
  when-< h = when-true _ x y (lt-ltb a b h)

  pub when-<-not : b ≤ a → (when a <ᵇ b then x else y) ≡ y
  when-<-not h = when-false _ x y (le-ltb a b h)

  pub when-≤ : a ≤ b → (when a ≤ᵇ b then x else y) ≡ x
  when-≤ h = when-true _ x y (le-leb a b h)

  pub when-≤-not : b < a → (when a ≤ᵇ b then x else y) ≡ y
  when-≤-not h = when-false _ x y (lt-leb a b h)

  pub when-= : a ≡ b → (when a =ᵇ b then x else y) ≡ x
  when-= h = when-true _ x y (eq-eqb a b h)

  pub when-=-not : (a ≡ b → ⊥) → (when a =ᵇ b then x else y) ≡ y
  when-=-not h = when-false _ x y (ne_eqb a b h)

  pub when-≠ : (a ≡ b → ⊥) → (when a ≠ᵇ b then x else y) ≡ x
  when-≠ h = when-true _ x y (ap not (ne_eqb a b h))

  pub when-≠-not : a ≡ b → (when a ≠ᵇ b then x else y) ≡ y
  when-≠-not h = when-false _ x y (ap not (eq-eqb a b h))

-- two lists with the same first line: the rest need be the same only where its test fails
pub when-else-past : {A : Type 0} {s t : Bool} (x : A) {y z : A} → s ≡ t → (s ≡ false → y ≡ z) → (when s then x else y) ≡ (when t then x else z)
when-else-past {s} {t} x {y} {z} same rest = when-both ◌≡◌ s t x y x z same (λ e. refl) rest

-- the library's own choice: its tactics decide on that one
pub when_cond : {A : Type 0} (t : Bool) (x y : A) → (when t then x else y) ≡ cond t x y
unfolding when◌then◌else◌
when_cond true x y = refl
when_cond false x y = refl
