-- Laws of steps.
use Rattle.std.proofs.Common.{ℕ, List, [], ◌∷◌, ◌++◌, refl, sym, ap, subst, ◌∙◌, append-nil, append_assoc}
use Rattle.script.specs.Steps.{Runs}

module _ {S : Type 0} (steps : S → List ℕ → List ℕ → S → Type 0) where
  pub Runs-none : (s : S) → Runs steps s [] [] s
  unfolding Runs
  Runs-none s = (refl, refl)

  -- one more line
  pub Runs-next :
      (from mid to : S) (lines : List (List ℕ)) (line text more : List ℕ) → Runs steps from lines text mid → steps mid line more to →
      Runs steps from (lines ++ (line ∷ [])) (text ++ more) to
  unfolding Runs
  Runs-next from mid to [] line text more p q =
      (more, [], to, subst (λ s. steps s line more to) p.1 q, (refl, refl), ap (λ (t : List ℕ). t ++ more) p.0 ∙ sym (append-nil more))
  Runs-next from mid to (first ∷ lines) line text more p q =
      (p.0, p.1 ++ more, p.2, p.3, Runs-next p.2 mid to lines line p.1 more p.4 q, ap (λ t. t ++ more) p.5 ∙ append_assoc p.0 p.1 more)
