use Rattle.entry.proofs.Places.{header-first}
use Prim.Native.Nat.{◌<◌, ◌≤◌}
use mathlib.Core.Path.{◌≡◌, sym, ◌∙◌}
use mathlib.Core.Logic.{⊎_elim}
use native.Mathlib.Omega.{arith}
use Rattle.choice.proofs.Tests.{lt-or-ge}
use Rattle.table.proofs.Words.{sound-at, header-clock-under, table-not-by-header, table-not-by-place, table-by-each-place}
use Rattle.table.proofs.Table.is_sound.Goals as goal

pub returns-then-not-sound_header : goal.returns-then-not-sound_header
returns-then-not-sound_header c = sym (table-not-by-header _ _ _ (sym c.sound_header.ensures ∙ c.if-not-sound_header.true))

pub loop-number-init : goal.loop-number-init
loop-number-init c = λ p h. absurd (omega (arith, h))

pub invariant_of-clock : goal.invariant_of-clock
invariant_of-clock c =
    let l = c in
    omega (arith, header-clock-under _ _ (sym l.sound_header.ensures ∙ l.if-not-sound_header.false), l.clock.ensures)

pub returns-then-not-sound_entry : goal.returns-then-not-sound_entry
returns-then-not-sound_entry c =
    let there = c.place.ensures in
    let told = rw (there.version, there.table) at c.sound_entry.ensures in
    let no = sound-at _ _ _ _ _ _ c.clock.ensures there.at told ∙ c.if-not-sound_entry.true in
    sym (table-not-by-place _ _ _ _ c.loop-number-test.true no)

pub loop-number-preserved : goal.loop-number-preserved
loop-number-preserved c =
    let there = c.place.ensures in
    let told = rw (there.version, there.table) at c.sound_entry.ensures in
    let here = sound-at _ _ _ _ _ _ c.clock.ensures there.at told ∙ c.if-not-sound_entry.false in
    λ p h. ⊎_elim (λ (before : p < c.loop-number.number). c.loop-number.invariant p before)
    (λ (last : c.loop-number.number ≤ p). let same : p ≡ c.loop-number.number = omega (arith, last, h) in rw same here)
    (lt-or-ge p c.loop-number.number)

pub returns : goal.returns
returns c =
    let header = sym c.sound_header.ensures ∙ c.if-not-sound_header.false in
    sym (table-by-each-place _ _ _ header (λ p h. c.loop-number.invariant p (omega (arith, h))))

pub sound_header-requires : goal.sound_header-requires
sound_header-requires c = let t = c.args.self.now in omega (arith, header-first t.version t.places, t.inside)
