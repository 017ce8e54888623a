-- Laws of a sound connection: what soundness says, fact by fact, and that the stage and the FIN bits that a pass leaves are sound.
use Prim.Native.Nat.{ℕ, ◌+◌, ◌<◌, ◌≤◌, max}
use mathlib.Core.Path.{◌≡◌, refl, sym, ◌∙◌}
use mathlib.Core.Logic.{⊎_elim}
use mathlib.Core.Bool.{true, ◌&&◌}
use native.Mathlib.Omega.{arith}
use Rattle.std.proofs.lemmas.Bool.Decides.{nat_tests}
use borrow.Author.Tests.{le-leb, leb-true, eqb-true}
use Rattle.choice.specs.Choice.{◌≤ᵇ◌, ◌=ᵇ◌}
use Rattle.choice.proofs.Choice.{when-either, when_cond}
use Rattle.choice.proofs.Tests.{lt-or-ge, &&-true}
use Rattle.serial.specs.Ring.{ring_minus}
use Rattle.serial.specs.Serial.{seq_minus}
use Rattle.connection.specs.Ends.{sender, unheard}
use Rattle.connection.specs.Ranges.{widest}
use Rattle.connection.specs.Stages.{longest_life, life_of, with_fin, fins_after, open_stage, stage_after}
use Rattle.connection.specs.Sound.{sound_fins, sound_end, sound_unanswered, sound_connection}
use Rattle.connection.specs.declared.Connection.{Connection}
use Rattle.connection.specs.declared.End.{End}

-- Stage and FIN bits

pub sound_fins-to-3 : (stage fins : ℕ) → stage ≤ 3 → sound_fins stage fins ≡ (fins =ᵇ 0)
unfolding sound_fins
sound_fins-to-3 stage fins h = simp when_cond (grind (arith, nat_tests))

pub sound_fins-in-4 : (stage fins : ℕ) → stage ≡ 4 → sound_fins stage fins ≡ (1 ≤ᵇ fins) && (fins ≤ᵇ 2)
unfolding sound_fins
sound_fins-in-4 stage fins h = simp when_cond (grind (arith, nat_tests))

pub sound_fins-in-5 : (stage fins : ℕ) → stage ≡ 5 → sound_fins stage fins ≡ (fins =ᵇ 3)
unfolding sound_fins
sound_fins-in-5 stage fins h = simp when_cond (grind (arith, nat_tests))

pub sound_fins-from-6 : (stage fins : ℕ) → 6 ≤ stage → sound_fins stage fins ≡ (fins ≤ᵇ 3)
unfolding sound_fins
sound_fins-from-6 stage fins h = simp when_cond (grind (arith, nat_tests))

-- the FIN bits that a stage allows, case by case
pub data Fins (stage fins : ℕ) : Type 0 where
  to-3 : stage ≤ 3 → fins ≡ 0 → Fins stage fins
  in_4 : stage ≡ 4 → 1 ≤ fins → fins ≤ 2 → Fins stage fins
  in_5 : stage ≡ 5 → fins ≡ 3 → Fins stage fins
  from-6 : 6 ≤ stage → fins ≤ 3 → Fins stage fins

pub sound_fins-true : (stage fins : ℕ) → sound_fins stage fins ≡ true → Fins stage fins
sound_fins-true stage fins e =
    ⊎_elim
    (λ (h : stage < 4). let p : stage ≤ 3 = omega arith in to-3 p (eqb-true _ _ (sym (sound_fins-to-3 stage fins p) ∙ e)))
    (λ (h : 4 ≤ stage).
    ⊎_elim
    (λ (g : stage < 5).
    let p : stage ≡ 4 = omega arith in
    let q = &&-true (1 ≤ᵇ fins) (fins ≤ᵇ 2) (sym (sound_fins-in-4 stage fins p) ∙ e) in
    in_4 p (leb-true 1 fins q.0) (leb-true fins 2 q.1))
    (λ (g : 5 ≤ stage).
    ⊎_elim
    (λ (f : stage < 6). let p : stage ≡ 5 = omega arith in in_5 p (eqb-true _ _ (sym (sound_fins-in-5 stage fins p) ∙ e)))
    (λ (f : 6 ≤ stage). from-6 f (leb-true _ _ (sym (sound_fins-from-6 stage fins f) ∙ e)))
    (lt-or-ge stage 6))
    (lt-or-ge stage 5))
    (lt-or-ge stage 4)

pub sound_fins≤3 : (stage fins : ℕ) → sound_fins stage fins ≡ true → fins ≤ 3
unfolding sound_fins
sound_fins≤3 stage fins sound = let cases = simp when_cond at sound in grind (arith, nat_tests)

with_fin≤3 : (fins i : ℕ) → fins ≤ 3 → with_fin fins i ≤ 3
unfolding with_fin
with_fin≤3 fins i small = simp when_cond (grind (arith, nat_tests))

pub fins_after≤3 : (fins i f : ℕ) → fins ≤ 3 → fins_after fins i f ≤ 3
unfolding fins_after
fins_after≤3 fins i f small = when-either (λ n. n ≤ 3) _ _ _ (with_fin≤3 fins i small) small

-- a stage that is sound with its FIN bits
pub record SoundStage (stage fins : ℕ) : Type 0 where
  pub some : 1 ≤ stage
  pub most : stage ≤ 6
  pub bits : sound_fins stage fins ≡ true

pub stage_after-sound : (stage fins i f : ℕ) → fins ≤ 3 → SoundStage (stage_after stage fins i f) fins
unfolding stage_after open_stage sound_fins
stage_after-sound stage fins i f small = record {
  some = simp when_cond (grind (arith, nat_tests));
  most = simp when_cond (grind (arith, nat_tests));
  bits = simp when_cond (grind (arith, nat_tests));
}

-- a reset leaves the FIN bits of any stage
pub reset-sound : (fins : ℕ) → fins ≤ 3 → SoundStage 6 fins
reset-sound fins small = record { some = omega arith; most = omega arith; bits = sound_fins-from-6 6 fins (omega arith) ∙ le-leb fins 3 small }

-- One record

pub sound_end-true : (e : End) → sound_end e ≡ true → (1 ≤ e.win.0) × (e.win.0 ≤ widest) × ((seq_minus e.edge e.end).0 ≤ widest)
unfolding sound_end
sound_end-true e sound = grind (arith, nat_tests)

pub true-sound_end : (e : End) → 1 ≤ e.win.0 → e.win.0 ≤ widest → (seq_minus e.edge e.end).0 ≤ widest → sound_end e ≡ true
unfolding sound_end
true-sound_end e some most near = grind (arith, nat_tests)

-- a larger window
pub widened-sound :
    (e : End) (w : ℕ) → w ≤ widest → sound_end e ≡ true →
    sound_end (record { end = e.end; edge = e.edge; win = record { 0 = max e.win.0 w } }) ≡ true
widened-sound e w small sound = let s = sound_end-true e sound in true-sound_end _ (omega arith) (omega arith) s.2

pub unheard-sound : sound_end unheard ≡ true
unfolding sound_end ring_minus
unheard-sound = refl

-- A connection

pub life_of≤ : (stage : ℕ) → life_of stage ≤ longest_life
unfolding life_of
life_of≤ stage = simp when_cond (grind (arith, nat_tests))

-- what soundness says, fact by fact
pub record Facts (clock : ℕ) (c : Connection) : Type 0 where
  pub stage-some : 1 ≤ c.stage
  pub stage-most : c.stage ≤ 6
  pub side : c.side ≤ 1
  pub fins : sound_fins c.stage c.fins ≡ true
  pub deadline : c.deadline ≤ clock + longest_life
  pub opener : sound_end (sender c.ends 0) ≡ true
  pub answerer : sound_end (sender c.ends 1) ≡ true
  pub unanswered : sound_unanswered c.stage (sender c.ends 0) (sender c.ends 1) ≡ true

pub sound-facts : (clock : ℕ) (c : Connection) → sound_connection clock c ≡ true → Facts clock c
unfolding sound_connection
sound-facts clock c sound = record {
  stage-some = grind (arith, nat_tests);
  stage-most = grind (arith, nat_tests);
  side = grind (arith, nat_tests);
  fins = grind (arith, nat_tests);
  deadline = grind (arith, nat_tests);
  opener = grind (arith, nat_tests);
  answerer = grind (arith, nat_tests);
  unanswered = grind (arith, nat_tests);
}

pub facts-sound : (clock : ℕ) (c : Connection) → Facts clock c → sound_connection clock c ≡ true
unfolding sound_connection
facts-sound clock c f = grind (arith, nat_tests)

-- by a later clock, as the header's only rises
pub later-sound : (clock now : ℕ) (c : Connection) → clock ≤ now → sound_connection clock c ≡ true → sound_connection now c ≡ true
unfolding sound_connection
later-sound clock now c later sound = grind (arith, nat_tests)
