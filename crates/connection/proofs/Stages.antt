-- The test for 1 or 2, of stages and of FIN bits, a flag that is not set, lives, and the stages that a pass leaves.
use Prim.Native.Nat.{ℕ, ◌≤◌, ◌<◌}
use mathlib.Core.Path.{◌≡◌}
use mathlib.Core.Bool.{true, false, ◌&&◌, ◌||◌, not}
use native.Mathlib.Omega.{arith}
use Rattle.std.proofs.lemmas.Bool.Decides.{nat_tests}
use Rattle.choice.specs.Choice.{◌≤ᵇ◌, ◌=ᵇ◌}
use Rattle.choice.proofs.Choice.{when_cond}
use Rattle.connection.specs.Stages.{life_of, open_stage, stage_after}

pub one-or-two : (x : ℕ) → 1 ≤ x → x < 3 → ((1 ≤ᵇ x) && (x ≤ᵇ 2)) ≡ true
one-or-two x low high = grind (arith, nat_tests)

pub not-one-or-two : (x : ℕ) → (1 ≤ x → 3 ≤ x) → ((1 ≤ᵇ x) && (x ≤ᵇ 2)) ≡ false
not-one-or-two x outside = grind (arith, nat_tests)

-- a flag that is not set is 0
pub clear-flag : (b : ℕ) → b < 2 → (b =ᵇ 0) ≡ not (b =ᵇ 1)
clear-flag b bit = grind (arith, nat_tests)

-- outside 1 to 6 there is no life
pub life_of-outside : (stage : ℕ) → (1 ≤ stage → 6 < stage) → life_of stage ≡ 0
unfolding life_of
life_of-outside stage outside = simp when_cond (grind (arith, nat_tests))

pub 1≤life_of : (stage : ℕ) → 1 ≤ stage → stage ≤ 6 → 1 ≤ life_of stage
unfolding life_of
1≤life_of stage low high = simp when_cond (grind (arith, nat_tests))

-- neither 3 nor 6, the stages from which an open connection goes on as 3
pub not-open : (stage : ℕ) → (stage ≡ 3 → ⊥) → (stage ≡ 6 → ⊥) → ((stage =ᵇ 3) || (stage =ᵇ 6)) ≡ false
not-open stage not-3 not-6 = grind (arith, nat_tests)

module _ (stage fins i f : ℕ) where
  pub stage_after≥2 : 2 ≤ stage_after stage fins i f
  unfolding stage_after open_stage
  stage_after≥2 = simp when_cond (grind (arith, nat_tests))

  pub stage_after≤5 : stage_after stage fins i f ≤ 5
  unfolding stage_after open_stage
  stage_after≤5 = simp when_cond (grind (arith, nat_tests))
