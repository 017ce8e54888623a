-- What a pass has freed is free: of a table's connections.
use Prim.Native.Nat.{ℕ}
use mathlib.Core.Path.{◌≡◌, refl, ap}
use mathlib.Core.Bool.{true}
use native.Mathlib.Omega.{arith}
use borrow.Author.Tests.{eqb-true}
use Rattle.choice.specs.Choice.{◌=ᵇ◌}
use Rattle.choice.proofs.Choice.{when-either}
use Rattle.choice.proofs.Tests.{false-true}
use Rattle.segment.specs.declared.Segment.{Segment}
use Rattle.connection.specs.Stages.{fins_after, stage_after}
use Rattle.connection.specs.Decision.{free, repeated, answered, carried, reset, passed}
use Rattle.connection.specs.declared.Connection.{Connection}
use Rattle.connection.proofs.Stages.{stage_after≥2}
use Rattle.rows.specs.Connections.{FreedWhereFree}

-- a reset leaves stage 6, what is carried has stage 2 or later, a repeated SYN leaves stage 1 and its answer 2
freed-free : (c : Connection) (i : ℕ) (g : Segment) (now : ℕ) → (passed c i g now).stage =ᵇ 0 ≡ true → passed c i g now ≡ free
unfolding passed repeated answered carried reset
freed-free c i g now =
    let FreeIfFreed : Connection → Type 0 = λ x. x.stage =ᵇ 0 ≡ true → x ≡ free in
    let fins = fins_after c.fins i g.flags in
    let later = stage_after≥2 c.stage fins i g.flags in
    when-either FreeIfFreed _ _ _ (when-either FreeIfFreed _ _ _ (λ e. false-true e) (λ _. refl))
    (when-either FreeIfFreed _ _ _ (λ e. absurd (omega (arith, later, eqb-true (stage_after c.stage fins i g.flags) 0 e)))
    (when-either FreeIfFreed _ _ _ (λ e. false-true e) (λ e. false-true e)))

pub freed-where-free : FreedWhereFree
freed-where-free c i g now = (freed-free c i g now, ap (λ (x : Connection). x.stage =ᵇ 0))
