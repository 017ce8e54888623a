-- Demand 3 in document 02's own words follows: they ask for more.
use mathlib.Core.List.{List, [], ◌∷◌}
use Rattle.honest.specs.Machine.{Machine, KeepsTo}
use Rattle.honest.specs.Rules.{opening, arrival, other, Event, send, call, delivery, Pair}
use Rattle.honest.specs.Honest.{Legal, LegalAsWritten, Demand3AsWritten}
use Rattle.honest.proofs.Demand3.{demand3}

-- a list that is legal as written is legal
pub written-legal :
    (M : Machine) (s₀ : M.State) (P : Pair) (L : List (Event M.Call)) → LegalAsWritten M s₀ P L →
    Legal M s₀ P L
written-legal M s₀ P [] legal = tt
written-legal M s₀ P (send p ∷ L) legal = (legal.0.0, written-legal M s₀ P L legal.1)
written-legal M s₀ P (call q (opening k p) ∷ L) legal = (legal.0, written-legal M s₀ P L legal.1)
written-legal M s₀ P (call q (arrival k p) ∷ L) legal =
    let r = legal.0 in (
      record {
        after_opening = r.after_opening;
        arrives = r.arrives;
        order = λ _. r.order;
        live = r.live;
        reset_passes = r.reset_passes;
      },
      written-legal M s₀ P L legal.1,
    )
written-legal M s₀ P (call q other ∷ L) legal = (λ ours-is. absurd (legal.0 ours-is), written-legal M s₀ P L legal.1)
written-legal M s₀ P (delivery k p ∷ L) legal = (legal.0, written-legal M s₀ P L legal.1)

pub demand3_as_written : (M : Machine) (Sound : M.State → Type 0) → KeepsTo M Sound → Demand3AsWritten M Sound
demand3_as_written M Sound keeps s₀ sound P known L legal = demand3 M Sound keeps s₀ sound P known L (written-legal M s₀ P L legal)
