-- Known bytes that grow by some text.
use Rattle.std.proofs.Common.{ℕ, List, [], ◌++◌, OnOk, Ok, Err}
use Rattle.std.specs.Prelude.{⊤}
use Rattle.std.specs.Io.KnownBytes.{Appends}
use Rattle.std.specs.declared.option.Option.{Option}
use Rattle.std.specs.declared.result.Result.{Result}
use Rattle.script.specs.Steps.{Grows}
use Rattle.script.proofs.Written.{Appends-nothing, Appends-then}

pub grows_none : (a : Option (List ℕ)) → Grows a a
unfolding Grows
grows_none a = ([], Appends-nothing a)

pub grows_by : (a b : Option (List ℕ)) (text : List ℕ) → Appends a b text → Grows a b
unfolding Grows
grows_by a b text p = (text, p)

pub grows_then : (a b c : Option (List ℕ)) → Grows a b → Grows b c → Grows a c
unfolding Grows
grows_then a b c p q = (p.0 ++ q.0, Appends-then a b c p.0 q.0 p.1 q.1)

module _ {A E : Type 0} (r : Result A E) where
  pub grows_at_end : (a b c : Option (List ℕ)) → Grows a b → OnOk r (Grows b c) → OnOk r (Grows a c)
  grows_at_end a b c p q = elim r as (λ r. OnOk r (Grows b c) → OnOk r (Grows a c)) [ Ok x ↦ λ q. grows_then a b c p q | Err e ↦ λ q. tt ] q

  pub grows_by_end : (a b c : Option (List ℕ)) (last : List ℕ) → Grows a b → OnOk r (Appends b c last) → OnOk r (Grows a c)
  grows_by_end a b c last p q =
      elim r as (λ r. OnOk r (Appends b c last) → OnOk r (Grows a c)) [ Ok x ↦ λ q. grows_then a b c p (grows_by b c last q) | Err e ↦ λ q. tt ] q

  -- all that a step owes where any text may be put
  pub grows_in_step :
      (a b c : Option (List ℕ)) (last : List ℕ) → Grows a b → OnOk r (Appends b c last) → OnOk r ((text : List ℕ) × ⊤ × Appends a c text)
  unfolding Grows
  grows_in_step a b c last p q =
      elim r as (λ r. OnOk r (Appends b c last) → OnOk r ((text : List ℕ) × ⊤ × Appends a c text))
      [ Ok x ↦ λ q. (p.0 ++ last, tt, Appends-then a b c p.0 last p.1 q) | Err e ↦ λ q. tt ] q

pub ruleset growth = (grows_none, grows_by, grows_then, grows_at_end)
