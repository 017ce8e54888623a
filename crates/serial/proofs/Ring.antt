-- Laws that relate the ring to the line, at windows up to `largest_window` and ranges up to `largest_range`. Capital letters are
-- places on the line: E an end, R an edge, S and A where a segment starts and what it acknowledges; W, n, K are counts.
use Rattle.std.proofs.Common.{◌≡◌, ℕ, ◌+◌, ◌-◌, ◌*◌, ◌%◌, ◌^◌, ◌<◌, ◌≤◌, Bool, true, false, eqb, ltb, ◌↔◌, sym, refl, ap, ◌∙◌, arith, ltb-false, ltb-true}
use Rattle.choice.proofs.Choice.{when-cases}
use Rattle.choice.proofs.Tests.{eqb≡eqb}
use Rattle.serial.specs.Ring.{wrap, ring_plus, ring_minus, nearest, NearestIs, largest_window, largest_range}

-- Wrapping

pub wrap-small : (X : ℕ) → wrap X < 2 ^ 32
unfolding wrap
wrap-small X = omega arith

pub wrap-id : (s : ℕ) → s < 2 ^ 32 → wrap s ≡ s
unfolding wrap
wrap-id s fits = omega arith

-- a turn of the ring
pub wrap-turn : (X : ℕ) → wrap (X + 2 ^ 32) ≡ wrap X
unfolding wrap
wrap-turn X = omega arith

-- whole turns, from a turn up, so that nothing falls below zero
pub wrap-turns : (X turns : ℕ) → turns * 2 ^ 32 ≤ X + 2 ^ 32 → wrap (X + 2 ^ 32 - turns * 2 ^ 32) ≡ wrap X
unfolding wrap
wrap-turns X turns below = omega arith

-- two places closer than a turn with one sequence number are one place
pub wrap-injective : (X Y : ℕ) → wrap X ≡ wrap Y → X < Y + 2 ^ 32 → Y < X + 2 ^ 32 → X ≡ Y
unfolding wrap
wrap-injective X Y same near near' = omega arith

pub wrap-plus : (X n : ℕ) → ring_plus (wrap X) n ≡ wrap (X + n)
unfolding wrap ring_plus
wrap-plus X n = omega arith

pub wrap-back : (X n : ℕ) → n ≤ X → n ≤ 2 ^ 32 → ring_minus (wrap X) n ≡ wrap (X - n)
unfolding wrap ring_minus
wrap-back X n below small = omega arith

-- the same with a turn added, so that nothing falls below zero
pub wrap-back-turn : (X n : ℕ) → n ≤ 2 ^ 32 → ring_minus (wrap X) n ≡ wrap (X + 2 ^ 32 - n)
unfolding wrap ring_minus
wrap-back-turn X n small = omega arith

pub wrap-minus : (X Y : ℕ) → Y ≤ X → X < Y + 2 ^ 32 → ring_minus (wrap X) (wrap Y) ≡ X - Y
unfolding wrap ring_minus
wrap-minus X Y below near = omega arith

pub ring_minus-small : (x y : ℕ) → ring_minus x y < 2 ^ 32
unfolding ring_minus
ring_minus-small x y = omega arith

-- the number that, added to y, wraps to x
pub ring_minus-unique : (r x y : ℕ) → r < 2 ^ 32 → y < 2 ^ 32 → (r + y) % 2 ^ 32 ≡ x → r ≡ ring_minus x y
unfolding ring_minus
ring_minus-unique r x y small small' sum = omega arith

-- counted up from L, a sequence number is reached within a turn
pub wrap-counted : (L s : ℕ) → s < 2 ^ 32 → wrap (L + ring_minus s (wrap L)) ≡ s
unfolding wrap ring_minus
wrap-counted L s fits = omega arith

-- Bounds I and II: low = E − W, the start at or past low, the end at or before R

-- how far X lies past low
pub past-low : (E W X : ℕ) → W ≤ 2 ^ 32 → E ≤ X + W → X + W < E + 2 ^ 32 → ring_minus (wrap X) (ring_minus (wrap E) W) ≡ X + W - E
past-low E W X small from near =
    ap (ring_minus (wrap X)) (wrap-back-turn E W small)
    ∙ ap (λ (x : ℕ). ring_minus x (wrap (E + 2 ^ 32 - W))) (sym (wrap-turn X))
    ∙ wrap-minus (X + 2 ^ 32) (E + 2 ^ 32 - W) (omega arith) (omega arith)
    ∙ omega arith

-- on the line, so on the ring
pub range-wrap :
    (E R W S n : ℕ) → W ≤ largest_window → R ≤ E + largest_window → E ≤ S + W → S + n ≤ R →
    ring_minus (wrap S) (ring_minus (wrap E) W) + n ≤ ring_minus (wrap R) (ring_minus (wrap E) W)
range-wrap E R W S n wide span low high =
    omega (arith, past-low E W S (omega arith) low (omega arith), past-low E W R (omega arith) (omega arith) (omega arith))

-- on the ring, so on the line, for the place S near E
pub range-unwrap :
    (E R W S n : ℕ) → W ≤ largest_window → E ≤ R → R ≤ E + largest_window → E ≤ S + 2 ^ 31 → S < E + 2 ^ 31 →
    ring_minus (wrap S) (ring_minus (wrap E) W) + n ≤ ring_minus (wrap R) (ring_minus (wrap E) W) →
    (E ≤ S + W) × (S + n ≤ R)
range-unwrap E R W S n wide ordered span near near' met = from_low (ltb (S + W) E) refl
  where
    edge : ring_minus (wrap R) (ring_minus (wrap E) W) ≡ R + W - E
    edge = past-low E W R (omega arith) (omega arith) (omega arith)

    from_low : (t : Bool) → ltb (S + W) E ≡ t → (E ≤ S + W) × (S + n ≤ R)
    from_low true e =
        let below = ltb-true (S + W) E e in
        let turned : ring_minus (wrap S) (ring_minus (wrap E) W) ≡ S + 2 ^ 32 + W - E =
        ap (λ (x : ℕ). ring_minus x (ring_minus (wrap E) W)) (sym (wrap-turn S)) ∙ past-low E W (S + 2 ^ 32) (omega arith) (omega arith) (omega arith) in
        absurd (omega (arith, edge))
    from_low false e =
        let above = ltb-false (S + W) E e in
        let start = past-low E W S (omega arith) above (omega arith) in
        (above, omega (arith, edge))

-- Bounds III and IV: the acknowledgement at or before E, by no more than K

pub ack-wrap : (E A K : ℕ) → K ≤ largest_range → A ≤ E → E ≤ A + K → ring_minus (wrap E) (wrap A) ≤ K
ack-wrap E A K small high low = omega (arith, wrap-minus E A high (omega arith))

pub ack-unwrap : (E A K : ℕ) → K ≤ largest_range → E ≤ A + 2 ^ 31 → A < E + 2 ^ 31 → ring_minus (wrap E) (wrap A) ≤ K → (A ≤ E) × (E ≤ A + K)
ack-unwrap E A K small near near' met = from_end (ltb E A) refl
  where
    from_end : (t : Bool) → ltb E A ≡ t → (A ≤ E) × (E ≤ A + K)
    from_end true e =
        let above = ltb-true E A e in
        let turned : ring_minus (wrap E) (wrap A) ≡ E + 2 ^ 32 - A =
        ap (λ (x : ℕ). ring_minus x (wrap A)) (sym (wrap-turn E)) ∙ wrap-minus (E + 2 ^ 32) A (omega arith) (omega arith) in
        absurd (omega arith)
    from_end false e =
        let below = ltb-false E A e in
        let back = wrap-minus E A below (omega arith) in
        (below, omega arith)

-- The whole number nearest

-- both lines of the choice, by the count from E up
pub wrap-nearest : (E s : ℕ) → 2 ^ 31 ≤ E → s < 2 ^ 32 → wrap (nearest E s) ≡ s
unfolding nearest
wrap-nearest E s high fits =
    let up = ring_minus s (wrap E) in
    when-cases (λ (X : ℕ). wrap X ≡ s) _ (E + up) (E + up - 2 ^ 32) (λ _. wrap-counted E s fits)
    (λ far.
    let turned : E + up - 2 ^ 32 + 2 ^ 32 ≡ E + up = omega (arith, ltb-false up (2 ^ 31) far) in
    sym (wrap-turn (E + up - 2 ^ 32)) ∙ ap wrap turned ∙ wrap-counted E s fits)

pub nearest-near : (E s : ℕ) → 2 ^ 31 ≤ E → (E ≤ nearest E s + 2 ^ 31) × (nearest E s < E + 2 ^ 31)
unfolding nearest
nearest-near E s high =
    let up = ring_minus s (wrap E) in
    when-cases (λ (X : ℕ). (E ≤ X + 2 ^ 31) × (X < E + 2 ^ 31)) _ (E + up) (E + up - 2 ^ 32)
    (λ near. omega (arith, ltb-true up (2 ^ 31) near))
    (λ far. omega (arith, ltb-false up (2 ^ 31) far, ring_minus-small s (wrap E)))

pub nearest-is : NearestIs
nearest-is E s X high fits = (
  (λ is. rw is (wrap-nearest E s high fits, (nearest-near E s high).0, (nearest-near E s high).1)),
  (λ place.
      let n = nearest-near E s high in
      wrap-injective X (nearest E s) (place.0 ∙ sym (wrap-nearest E s high fits)) (omega arith) (omega arith)),
)

-- a place within 2^31 of E is the nearest with its sequence number
pub nearest-wrap : (E S : ℕ) → 2 ^ 31 ≤ E → E ≤ S + 2 ^ 31 → S < E + 2 ^ 31 → nearest E (wrap S) ≡ S
nearest-wrap E S high near near' = sym ((nearest-is E (wrap S) S high (wrap-small S)).1 (refl, near, near'))

-- how far the nearest place lies past half a turn below base
pub nearest_ring_minus :
    (base x : ℕ) → base < 2 ^ 32 → x < 2 ^ 32 →
    nearest (base + 2 ^ 32) x ≡ base + 2 ^ 31 + (ring_minus x base + 2 ^ 31) % 2 ^ 32
unfolding wrap ring_minus
nearest_ring_minus base x small small' =
    sym ((nearest-is (base + 2 ^ 32) x _ (omega arith) (omega arith)).1 (omega arith, omega arith, omega arith))

-- the same for any count that, added to base, wraps to x
pub nearest-counted :
    (base x up : ℕ) → up < 2 ^ 32 → base < 2 ^ 32 → (up + base) % 2 ^ 32 ≡ x →
    nearest (base + 2 ^ 32) x ≡ base + 2 ^ 31 + (up + 2 ^ 31) % 2 ^ 32
nearest-counted base x up small small' sum =
    rw (ring_minus-unique up x base small small' sum) (nearest_ring_minus base x small' (omega arith))

-- What a pass writes, told from the counts that the ranges compare

-- the end rises exactly where the segment ends more than W past low
-- (nothing uses it yet: it is for a cheaper `further`)
pub end-rises :
    (E W S n : ℕ) → W ≤ 2 ^ 32 → E ≤ S + W → S + W < E + 2 ^ 32 →
    (W < ring_minus (wrap S) (ring_minus (wrap E) W) + n) ↔ (E < S + n)
end-rises E W S n small low near =
    ((λ t. omega (arith, past-low E W S small low near, t)), (λ t. omega (arith, past-low E W S small low near, t)))

-- the edge rises exactly where the granted count exceeds edge − end and end − acknowledgement together
-- (nothing uses it yet: it is for a cheaper `further`)
pub edge-rises :
    (E R A v : ℕ) → E ≤ R → R < E + 2 ^ 32 → A ≤ E → E < A + 2 ^ 32 →
    (ring_minus (wrap R) (wrap E) + ring_minus (wrap E) (wrap A) < v) ↔ (R < A + v)
edge-rises E R A v ordered span high near = (
  (λ t. omega (arith, wrap-minus R E ordered span, wrap-minus E A high near, t)),
  (λ t. omega (arith, wrap-minus R E ordered span, wrap-minus E A high near, t)),
)

-- A segment met by the bounds before and after another pass stands at one place

-- its start (nothing uses it yet: it is for the log engine)
pub same_start :
    (E R W E' R' W' S S' n : ℕ) → W ≤ largest_window → W' ≤ largest_window → R ≤ E + largest_window → R' ≤ E' + largest_window → E ≤ E' →
    E' ≤ R → E ≤ S + W → S + n ≤ R → E' ≤ S' + W' → S' + n ≤ R' → wrap S ≡ wrap S' →
    S ≡ S'
same_start E R W E' R' W' S S' n a b c d e f g h i j same = wrap-injective S S' same (omega arith) (omega arith)

-- what it acknowledges (nothing uses it yet: it is for the log engine)
pub same-ack :
    (E E' A A' K : ℕ) → K ≤ largest_range → E ≤ E' → E' ≤ E + largest_window → A ≤ E → E ≤ A + K → A' ≤ E' → E' ≤ A' + K →
    wrap A ≡ wrap A' →
    A ≡ A'
same-ack E E' A A' K a b c d e f g same = wrap-injective A A' same (omega arith) (omega arith)

-- places near E are told apart by their sequence numbers
pub wrap-eqb :
    (E S X : ℕ) → E ≤ S + 2 ^ 31 → S < E + 2 ^ 31 → E ≤ X + 2 ^ 31 → X < E + 2 ^ 31 →
    eqb (wrap S) (wrap X) ≡ eqb S X
wrap-eqb E S X low high low' high' =
    eqb≡eqb (wrap S) (wrap X) S X
    (λ (e : wrap S ≡ wrap X). wrap-injective S X e (omega arith) (omega arith))
    (λ (e : S ≡ X). ap wrap e)
