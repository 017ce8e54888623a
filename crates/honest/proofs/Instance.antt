-- The theorem applies to the rows themselves, from any sound table, and the fresh table is one.
use Prim.Native.Nat.{ℕ, ◌≤◌}
use mathlib.Core.Path.{◌≡◌, refl}
use mathlib.Core.Logic.{inl}
use mathlib.Core.List.{List}
use Rattle.choice.proofs.Tests.{false-true}
use Rattle.rows.specs.Rows.{filter}
use Rattle.rows.specs.Connections.{connections}
use Rattle.rows.proofs.Rows.{refusal-keeps}
use Rattle.honest.specs.Machine.{KeepsTo}
use Rattle.honest.specs.Rules.{Event, Pair}
use Rattle.honest.specs.Honest.{Legal, NeverBlocked, Demand3}
use Rattle.honest.specs.Demand2.{fresh, Demand2Of}
use Rattle.honest.specs.Instance.{ViewCall, view_machine, SoundTwoEndedView}
use Rattle.honest.proofs.SoundKept.{free-two-ended, filter-sound}
use Rattle.honest.proofs.Demand2Machine.{demand2-of}
use Rattle.honest.proofs.Demand3.{demand3}

pub fresh-sound : (n : ℕ) → SoundTwoEndedView (fresh connections n)
fresh-sound n = ((λ p inside. inl refl), (λ p inside. free-two-ended))

module _ (number : ℕ → ℕ) (differ : (p r : ℕ) → number p ≡ number r → p ≡ r) where
  pub view_machine-keeps : KeepsTo (view_machine number) SoundTwoEndedView
  view_machine-keeps = record {
    refusal_answered = λ t q n place sound is. false-true cc;
    refusal_placed = λ t q n place sound is. false-true cc;
    refusal_blocks = λ q n place is. false-true cc;
    well_formed = λ q a is. let same : q.0 ≡ a = cc in rw same at q.2;
    answer_by_rows = λ t q a sound is. let same : q.0 ≡ a = cc in rw same;
    place_by_rows = λ t q a sound is. let same : q.0 ≡ a = cc in rw same;
    view_by_rows = λ t q a sound is. let same : q.0 ≡ a = cc in rw same;
    blocked_keeps = λ t q refused. refusal-keeps connections t (filter connections t q.0) refused;
    apart_keeps = λ t q sound is. false-true cc;
    numbers_differ = differ;
    sound_view = λ t sound. sound.0;
    sound_kept = λ t q sound. filter-sound t q.0 sound.0 sound.1 q.1 q.2;
  }

  -- two honest ends are never blocked by the rows
  pub demand3-view : Demand3 (view_machine number) SoundTwoEndedView
  demand3-view = demand3 (view_machine number) SoundTwoEndedView view_machine-keeps

  -- and its answers, places and tables are the histories'
  pub demand2-view : Demand2Of (view_machine number) SoundTwoEndedView
  demand2-view = demand2-of (view_machine number) SoundTwoEndedView view_machine-keeps

  -- from the fresh table of any number of places
  pub demand3-fresh :
      (n : ℕ) (P : Pair) → P.side ≤ 1 → (L : List (Event ViewCall)) →
      Legal (view_machine number) (fresh connections n) P L → NeverBlocked (view_machine number) (fresh connections n) L
  demand3-fresh n = demand3-view (fresh connections n) (fresh-sound n)
