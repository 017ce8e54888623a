-- A connection by default is free.
use Rattle.std.proofs.Common.{◌≡◌, List, [], ◌∷◌, arith}
use Rattle.std.specs.Array.{AllOfLen}
use Rattle.connection.specs.Ends.{zeros}
use Rattle.connection.specs.Decision.{free}
use Rattle.connection.specs.contracts.EndDefault.TheImpl as the_end
use Rattle.connection.specs.contracts.ConnectionDefault.TheImpl as the_connection
use Rattle.connection.specs.declared.Connection.{Connection}
use Rattle.connection.specs.declared.End.{End}

zero_end : (e : End) → the_end.is_default-value.it e → e ≡ zeros
zero_end e (a, (b, c)) = λ i. record { end = record { 0 = a i }; edge = record { 0 = b i }; win = record { 0 = c i } }

zero_ends : (ends : List End) → AllOfLen the_end.is_default-value.it ends 2 → ends ≡ zeros ∷ zeros ∷ []
zero_ends (x ∷ y ∷ []) h = let p = zero_end x (h.at 0 x (omega arith)) in let q = zero_end y (h.at 1 x (omega arith)) in λ i. p i ∷ q i ∷ []
zero_ends [] h = absurd (omega (arith, h.long))
zero_ends (x ∷ []) h = absurd (omega (arith, h.long))
zero_ends (x ∷ y ∷ z ∷ l) h = absurd (omega (arith, h.long))

pub free_by_default : (c : Connection) → the_connection.is_default-value.it c → c ≡ free
free_by_default c (stage, (side, (fins, (deadline, ends)))) = λ i. record { stage = stage i; side = side i; fins = fins i; deadline = deadline i; ends = zero_ends c.ends ends i }
