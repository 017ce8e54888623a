-- Laws of what was put: known bytes grow step by step.
use Rattle.std.proofs.Common.{◌≡◌, ℕ, ◌+◌, ◌<◌, ◌≤◌, List, [], ◌∷◌, ◌++◌, length, get_or, take, sym, ap, ◌∙◌, add-one, append_assoc, take-suc, Some, None}
use Rattle.std.proofs.lemmas.List.{append-nil, take_all}
use Rattle.std.specs.Io.KnownBytes.{Appends, append_known}
use Rattle.std.specs.declared.option.Option.{Option}
use Rattle.report.specs.Text.{decimal_text}
use Rattle.script.specs.Fields.{spaced}
use Rattle.script.proofs.Collected.{spaced-last}

pub Appends-nothing : (a : Option (List ℕ)) → Appends a a []
Appends-nothing None = tt
Appends-nothing (Some xs) = sym (append-nil xs)

pub Appends-then : (a b c : Option (List ℕ)) (xs ys : List ℕ) → Appends a b xs → Appends b c ys → Appends a c (xs ++ ys)
Appends-then None b c xs ys p q = tt
Appends-then (Some l) None c xs ys p q = elim p [ ]
Appends-then (Some l) (Some m) None xs ys p q = elim q [ ]
Appends-then (Some l) (Some m) (Some n) xs ys p q = q ∙ ap (λ (k : List ℕ). k ++ ys) p ∙ append_assoc l xs ys

-- what is held grows
pub held-grows :
    (known : Option (List ℕ)) (held after bytes : List ℕ) → after ≡ held ++ bytes → Appends (append_known known held) (append_known known after) bytes
held-grows None held after bytes e = tt
held-grows (Some xs) held after bytes e = ap (λ (k : List ℕ). xs ++ k) e ∙ sym (append_assoc xs held bytes)

-- one more byte of a list
pub put-next :
    (a b c : Option (List ℕ)) (bytes : List ℕ) (i : ℕ) → i < length bytes →
    Appends a b (take i bytes) → Appends b c (get_or bytes i 0 ∷ []) → Appends a c (take (i + 1) bytes)
put-next a b c bytes i inside before next =
    rw (add-one, take-suc bytes i 0 inside) (Appends-then a b c (take i bytes) (get_or bytes i 0 ∷ []) before next)

-- one more number after a space
pub put_spaced-next :
    (a b c d : Option (List ℕ)) (rest : List ℕ) (i : ℕ) → i < length rest →
    Appends a b (spaced (take i rest)) → Appends b c (32 ∷ []) → Appends c d (decimal_text (get_or rest i 0)) →
    Appends a d (spaced (take (i + 1) rest))
put_spaced-next a b c d rest i inside before space number =
    rw (add-one, take-suc rest i 0 inside, spaced-last (take i rest) (get_or rest i 0))
    (Appends-then a b d (spaced (take i rest)) ((32 ∷ []) ++ decimal_text (get_or rest i 0)) before
    (Appends-then b c d (32 ∷ []) (decimal_text (get_or rest i 0)) space number))

pub put_spaced-all : (a b : Option (List ℕ)) (rest : List ℕ) (i : ℕ) → length rest ≤ i → Appends a b (spaced (take i rest)) → Appends a b (spaced rest)
put_spaced-all a b rest i past all = rw (take_all i rest past) at all

pub put_spaced-none : (a : Option (List ℕ)) (rest : List ℕ) → Appends a a (spaced (take 0 rest))
unfolding spaced
put_spaced-none a rest = Appends-nothing a
