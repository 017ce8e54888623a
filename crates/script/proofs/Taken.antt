-- Laws of what is taken of an input whose bytes are known.
use Rattle.std.proofs.Common.{◌≡◌, ℕ, suc, ◌+◌, ◌-◌, ◌^◌, ◌<◌, ◌≤◌, List, [], ◌∷◌, ◌++◌, length, get_or, take, Some, None, refl, sym, ap, ◌∙◌, subst, append_assoc, append-nil, add-one, arith, length-append, length-take, drop-cons, IfSome, inl, inr}
use Rattle.std.specs.Prelude.{slice_range, ⊤}
use Rattle.std.specs.Io.KnownBytes.{prepend_known, Consumes, IsAtEnd}
use Rattle.std.specs.declared.option.Option.{Option}
use Rattle.arrayvec.specs.ArrayVec.{ArrayVec}
use Rattle.std.proofs.lemmas.List.{nil_from_length, take_all, take-append-le}
use Rattle.std.specs.Option.{option_to_list}
use Rattle.choice.specs.Choice.{◌=ᵇ◌}
use Rattle.choice.proofs.Choice.{when-=, when-=-not, when-either}
use Rattle.choice.proofs.Tests.{lt-or-ge}
use Rattle.script.specs.Lines.{line_text, after_line, first_line, BeginsWith, AreLines, TakesLine, found_text}

-- A piece

pub slice_range-next :
    (piece : List ℕ) (at have : ℕ) → at < have → have ≤ length piece → slice_range piece at have ≡ get_or piece at 0 ∷ slice_range piece (at + 1) have
slice_range-next piece at have some inside =
    let count : have - at ≡ suc (have - (at + 1)) = omega arith in
    rw (count, drop-cons piece at 0 (omega arith), add-one)

pub Consumes-then : (a b c : Option (List ℕ)) (xs ys : List ℕ) → Consumes a b xs → Consumes b c ys → Consumes a c (xs ++ ys)
Consumes-then None b c xs ys p q = tt
Consumes-then (Some l) None c xs ys p q = elim p [ ]
Consumes-then (Some l) (Some m) None xs ys p q = elim q [ ]
Consumes-then (Some l) (Some m) (Some n) xs ys p q = p ∙ ap (λ (k : List ℕ). xs ++ k) q ∙ sym (append_assoc xs ys n)

-- A line

line_text-newline : (rest : List ℕ) → line_text (10 ∷ rest) ≡ []
unfolding line_text
line_text-newline rest = when-= {a = 10} {b = 10} _ _ refl

after_line-newline : (rest : List ℕ) → after_line (10 ∷ rest) ≡ rest
unfolding after_line
after_line-newline rest = when-= {a = 10} {b = 10} _ _ refl

line_text-more : (c : ℕ) (rest : List ℕ) → (c ≡ 10 → ⊥) → line_text (c ∷ rest) ≡ c ∷ line_text rest
unfolding line_text
line_text-more c rest other = when-=-not _ _ other

after_line-more : (c : ℕ) (rest : List ℕ) → (c ≡ 10 → ⊥) → after_line (c ∷ rest) ≡ after_line rest
unfolding after_line
after_line-more c rest other = when-=-not _ _ other

first_line-some : (input : List ℕ) → 0 < length input → first_line input ≡ Some (take 4096 (line_text input))
unfolding first_line
first_line-some [] some = absurd (omega arith)
first_line-some (c ∷ input) some = refl

-- no newline is among these characters
pub record NoNewline (seen : List ℕ) : Type 0 where
  pub text : (rest : List ℕ) → line_text (seen ++ rest) ≡ seen ++ line_text rest
  pub after : (rest : List ℕ) → after_line (seen ++ rest) ≡ after_line rest

pub NoNewline-next : (seen : List ℕ) (c : ℕ) → (c ≡ 10 → ⊥) → NoNewline seen → NoNewline (seen ++ (c ∷ []))
NoNewline-next seen c other none = record {
  text = λ rest.
      ap line_text (append_assoc seen (c ∷ []) rest)
      ∙ none.text (c ∷ rest)
      ∙ ap (λ (l : List ℕ). seen ++ l) (line_text-more c rest other)
      ∙ sym (append_assoc seen (c ∷ []) (line_text rest));
  after = λ rest. ap after_line (append_assoc seen (c ∷ []) rest) ∙ none.after (c ∷ rest) ∙ after_line-more c rest other;
}

line_holds :
    (line after seen : List ℕ) (c : ℕ) → line ≡ take 4096 seen → (length line < 4096 → after ≡ line ++ (c ∷ [])) → (4096 ≤ length line → after ≡ line) →
    after ≡ take 4096 (seen ++ (c ∷ []))
line_holds line after seen c held room full =
    let count = ap length held ∙ length-take 4096 seen in
    elim (lt-or-ge (length line) 4096) [
      | inl some ↦
          let all : take 4096 seen ≡ seen = take_all 4096 seen (omega arith) in
          let more : take 4096 (seen ++ (c ∷ [])) ≡ seen ++ (c ∷ []) = take_all 4096 (seen ++ (c ∷ [])) (omega (arith, length-append seen (c ∷ []))) in
          room some ∙ ap (λ (l : List ℕ). l ++ (c ∷ [])) (held ∙ all) ∙ sym more
      | inr none ↦ full none ∙ held ∙ sym (take-append-le 4096 seen (c ∷ []) (omega arith))
    ]

-- what was read of a line: all characters so far, and as many of them as a line holds
pub record Reading (old now : Option (List ℕ)) (line : List ℕ) (n : ℕ) : Type 0 where
  pub seen : List ℕ
  pub consumed : Consumes old now seen
  pub held : line ≡ take 4096 seen
  pub count : length seen ≡ n
  pub none : NoNewline seen

-- one more character, which the line takes where it has room
pub Reading-next :
    (old now new : Option (List ℕ)) (line after : List ℕ) (n c : ℕ) → Reading old now line n → Consumes now new (c ∷ []) → (c ≡ 10 → ⊥) →
    (length line < 4096 → after ≡ line ++ (c ∷ [])) → (4096 ≤ length line → after ≡ line) → Reading old new after (n + 1)
Reading-next old now new line after n c p q other room full = record {
  seen = p.seen ++ (c ∷ []);
  consumed = Consumes-then old now new p.seen (c ∷ []) p.consumed q;
  held = line_holds line after p.seen c p.held room full;
  count = length-append p.seen (c ∷ []) ∙ ap (λ m. m + 1) p.count;
  none = NoNewline-next p.seen c other p.none;
}

-- the byte that was given
pub byte-given : (a b : Option (List ℕ)) (r : Option ℕ) (x : ℕ) → r ≡ Some x → Consumes a b (option_to_list r) → Consumes a b (x ∷ [])
byte-given a b r x e p = subst (λ r. Consumes a b (option_to_list r)) e p

pub nothing-given : (a b : Option (List ℕ)) (r : Option ℕ) → r ≡ None → Consumes a b (option_to_list r) → Consumes a b []
nothing-given a b r e p = subst (λ r. Consumes a b (option_to_list r)) e p

pub takes-at_newline :
    (old now new : Option (List ℕ)) (line : ArrayVec ℕ) (n : ℕ) → Reading old now line.items n → Consumes now new (10 ∷ []) → TakesLine old new (Some line)
takes-at_newline None now new line n p q = tt
takes-at_newline (Some l) None new line n p q = elim p.consumed [ ]
takes-at_newline (Some l) (Some m) None line n p q = elim q [ ]
takes-at_newline (Some l) (Some m) (Some rest) line n p q = λ fits.
    let whole : l ≡ p.seen ++ (10 ∷ rest) = p.consumed ∙ ap (λ (k : List ℕ). p.seen ++ k) q in
    let text : line_text l ≡ p.seen =
    ap line_text whole ∙ p.none.text (10 ∷ rest) ∙ ap (λ (k : List ℕ). p.seen ++ k) (line_text-newline rest) ∙ append-nil p.seen in (
      ap Some (p.held ∙ ap (take 4096) (sym text)) ∙ sym (first_line-some l (omega (arith, ap length whole, length-append p.seen (10 ∷ rest)))),
      sym (ap after_line whole ∙ p.none.after (10 ∷ rest) ∙ after_line-newline rest),
    )

takes-at_end :
    (old now new : Option (List ℕ)) (line : ArrayVec ℕ) (n : ℕ) → Reading old now line.items n → Consumes now new [] → IsAtEnd new → 0 < length line.items →
    TakesLine old new (Some line)
unfolding line_text after_line
takes-at_end None now new line n p q e some = tt
takes-at_end (Some l) None new line n p q e some = elim p.consumed [ ]
takes-at_end (Some l) (Some m) None line n p q e some = elim q [ ]
takes-at_end (Some l) (Some m) (Some rest) line n p q e some = λ fits.
    let whole : l ≡ p.seen ++ [] = p.consumed ∙ ap (λ (k : List ℕ). p.seen ++ k) (q ∙ e) in
    let text : line_text l ≡ p.seen = ap line_text whole ∙ p.none.text [] ∙ append-nil p.seen in (
      ap Some (p.held ∙ ap (take 4096) (sym text))
          ∙ sym (first_line-some l (omega (arith, ap length whole, length-append p.seen [], ap length p.held, length-take 4096 p.seen))),
      e ∙ sym (ap after_line whole ∙ p.none.after []),
    )

takes-nothing :
    (old now new : Option (List ℕ)) (line : List ℕ) (n : ℕ) → Reading old now line n → Consumes now new [] → IsAtEnd new → length line ≡ 0 →
    TakesLine old new None
unfolding first_line after_line
takes-nothing None now new line n p q e none = tt
takes-nothing (Some l) None new line n p q e none = elim p.consumed [ ]
takes-nothing (Some l) (Some m) None line n p q e none = elim q [ ]
takes-nothing (Some l) (Some m) (Some rest) line n p q e none = λ fits.
    let whole : l ≡ p.seen ++ [] = p.consumed ∙ ap (λ (k : List ℕ). p.seen ++ k) (q ∙ e) in
    let empty : l ≡ [] = nil_from_length l (omega (arith, ap length whole, length-append p.seen [], ap length p.held, length-take 4096 p.seen)) in
    (sym (ap first_line empty), e ∙ sym (ap after_line empty))

pub takes-last :
    (old now new : Option (List ℕ)) (line : ArrayVec ℕ) (n : ℕ) (found : Option (ArrayVec ℕ)) → Reading old now line.items n → Consumes now new [] → IsAtEnd new →
    (0 < length line.items → found ≡ Some line) → (length line.items ≡ 0 → found ≡ None) → TakesLine old new found
takes-last old now new line n found p q e some none =
    elim (lt-or-ge 0 (length line.items)) [
      | inl more ↦ subst (TakesLine old new) (sym (some more)) (takes-at_end old now new line n p q e more)
      | inr empty ↦ let zero : length line.items ≡ 0 = omega arith in subst (TakesLine old new) (sym (none zero)) (takes-nothing old now new line.items n p q e zero)
    ]

-- of too long a line nothing is said
pub takes-too_long :
    (old new : Option (List ℕ)) (line : List ℕ) (n : ℕ) (found : Option (ArrayVec ℕ)) → Reading old new line n → 2 ^ 64 - 1 ≤ n → TakesLine old new found
takes-too_long None new line n found p long = tt
takes-too_long (Some l) None line n found p long = elim p.consumed [ ]
takes-too_long (Some l) (Some rest) line n found p long = λ fits. absurd (omega (arith, ap length p.consumed, length-append p.seen rest, p.count))

-- All lines

BeginsWith-next :
    (input : List ℕ) (lines : List (List ℕ)) (mid line : List ℕ) → BeginsWith input lines mid → first_line mid ≡ Some line →
    BeginsWith input (lines ++ (line ∷ [])) (after_line mid)
unfolding BeginsWith
BeginsWith-next input [] mid line p q = (ap first_line (sym p) ∙ q, ap after_line p)
BeginsWith-next input (first ∷ lines) mid line p q = (p.0, BeginsWith-next (after_line input) lines mid line p.1 q)

after_line-shorter : (c : ℕ) (input : List ℕ) → length (after_line (c ∷ input)) ≤ length input
unfolding after_line
after_line-shorter c [] = when-either (λ (l : List ℕ). length l ≤ 0) (c =ᵇ 10) [] [] (omega arith) (omega arith)
after_line-shorter c (d ∷ input) =
    when-either (λ (l : List ℕ). length l ≤ length (d ∷ input)) (c =ᵇ 10) (d ∷ input) (after_line (d ∷ input)) (omega arith) (omega (arith, after_line-shorter d input))

after_line-count : (input line : List ℕ) → first_line input ≡ Some line → length (after_line input) + 1 ≤ length input
unfolding first_line
after_line-count [] line p = cc
after_line-count (c ∷ input) line p = omega (arith, after_line-shorter c input)

first_line-none : (input : List ℕ) → first_line input ≡ None → input ≡ []
unfolding first_line
first_line-none [] p = refl
first_line-none (c ∷ input) p = cc

-- the lines so far were taken, and n of them
abbrev pub TakesLines : Option (List ℕ) → Option (List ℕ) → List (List ℕ) → ℕ → Type 0
TakesLines None new lines n = ⊤
TakesLines (Some input) None lines n = ⊥
TakesLines (Some input) (Some rest) lines n = length input < 2 ^ 64 - 1 → BeginsWith input lines rest × (n + length rest ≤ length input)

pub takes-no_lines : (a : Option (List ℕ)) → TakesLines a a [] 0
unfolding BeginsWith
takes-no_lines None = tt
takes-no_lines (Some input) = λ fits. (refl, omega arith)

pub takes-one_more :
    (a b c : Option (List ℕ)) (lines : List (List ℕ)) (found : Option (ArrayVec ℕ)) (line : ArrayVec ℕ) (text : List ℕ) (n : ℕ) →
    found ≡ Some line → text ≡ line.items → TakesLines a b lines n → TakesLine b c found → TakesLines a c (lines ++ (text ∷ [])) (n + 1)
takes-one_more None b c lines found line text n e f p q = tt
takes-one_more (Some input) None c lines found line text n e f p q = elim p [ ]
takes-one_more (Some input) (Some mid) None lines found line text n e f p q = elim q [ ]
takes-one_more (Some input) (Some mid) (Some rest) lines found line text n e f p q = λ fits.
    let before = p fits in
    let one = q (omega arith) in
    let first : first_line mid ≡ Some text = sym one.0 ∙ ap found_text e ∙ ap Some (sym f) in (
      subst (BeginsWith input (lines ++ (text ∷ []))) (sym one.1) (BeginsWith-next input lines mid text before.0 first),
      omega (arith, ap length one.1, after_line-count mid text first),
    )

pub takes-all :
    (a b c : Option (List ℕ)) (lines : List (List ℕ)) (found : Option (ArrayVec ℕ)) (n : ℕ) → found ≡ None → TakesLines a b lines n → TakesLine b c found →
    IfSome a (λ input. length input < 2 ^ 64 - 1 → AreLines input lines)
takes-all None b c lines found n e p q = tt
takes-all (Some input) None c lines found n e p q = elim p [ ]
takes-all (Some input) (Some mid) None lines found n e p q = elim q [ ]
takes-all (Some input) (Some mid) (Some rest) lines found n e p q = λ fits.
    let before = p fits in
    let one = q (omega arith) in
    subst (BeginsWith input lines) (first_line-none mid (sym one.0 ∙ ap found_text e)) before.0

-- so many lines are longer than any input of which something is said
pub takes-too_many :
    (a b : Option (List ℕ)) (lines : List (List ℕ)) (n : ℕ) → TakesLines a b lines n → 2 ^ 64 - 1 ≤ n → IfSome a (λ input. length input < 2 ^ 64 - 1 → AreLines input lines)
takes-too_many None b lines n p many = tt
takes-too_many (Some input) None lines n p many = elim p [ ]
takes-too_many (Some input) (Some rest) lines n p many = λ fits. absurd (omega (arith, (p fits).1))

-- a fact of what a new reader gives is one of what its reader has
pub of-unread :
    (known : Option (List ℕ)) (piece : List ℕ) (at have : ℕ) (P : List ℕ → Type 0) → at ≡ 0 → have ≡ 0 →
    IfSome (prepend_known (slice_range piece at have) known) P → IfSome known P
of-unread None piece at have P e f p = tt
of-unread (Some input) piece at have P e f p =
    let none : have - at ≡ 0 = omega arith in
    rw none at p
