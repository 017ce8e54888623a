-- The search: why an arrival finds the opening's place, and why nothing else becomes a live match of the pair.
use Prim.Native.Nat.{ℕ, zero, suc, ◌-◌, ◌<◌, ◌≤◌}
use mathlib.Core.Path.{◌≡◌, refl, sym, ap, ◌∙◌}
use mathlib.Core.Logic.{◌⊎◌, inl, inr, ⊎_elim}
use mathlib.Core.Bool.{Bool, true, false}
use native.Mathlib.Omega.{arith}
use borrow.Author.Tests.{eq-eqb, ne_eqb, eqb-true}
use Rattle.std.specs.Prelude.{None, Some}
use Rattle.choice.specs.Choice.{when◌then◌else◌, ◌=ᵇ◌}
use Rattle.choice.proofs.Choice.{when-true, when-false, when-either, when-cases, when-=, when-=-not}
use Rattle.choice.proofs.Tests.{&&-true, false-true}
use Rattle.address.specs.Flows.{reversed}
use Rattle.address.specs.declared.Flow.{Flow}
use Rattle.segment.specs.Flags.{rst, SYN}
use Rattle.segment.specs.declared.Segment.{Segment}
use Rattle.connection.specs.Decision.{opened, passed, carried, repeated, answered, reset}
use Rattle.connection.specs.declared.Connection.{Connection}
use Rattle.connection.proofs.Sound.{sound-facts}
use Rattle.rows.specs.Rows as rows
use Rattle.rows.specs.Rows.{Ask, Entry, View, Passed, live_match, sender_of, entry_with, entry_after, opening_entry, clock_used, filter, answer_of, place_by, after}
use Rattle.rows.specs.Connections.{connections}
use Rattle.rows.proofs.Places.{found-by, none-if-nothing}
use Rattle.rows.proofs.Matches.{EndOf, matches, matches-end, end-matches, far-end, same_end, mutual-end, live-match, unfound-expired, expired-unfound}
use Rattle.rows.proofs.Rows.{Comes, blocks, passes, makes, comes, pass-writes, pass-keeps}
use Rattle.history.proofs.Pass.{passed-reset}
use Rattle.honest.specs.Sound.{SoundView}
use Rattle.honest.specs.Rules.{Pair, side_of, key_of}

module _ (P : Pair) where
  -- an entry of the pair's addresses and ports, whichever end opened it: what the opener's segments match
  abbrev pub pairs : Entry connections → Bool
  pairs e = matches connections e P.side P.key

  abbrev pub ours : Connection → Entry connections
  ours c = record { key = P.key; connection = c }

  -- the opening's entry, at place p with connection c
  pub record OurEntry (v : View connections) (p : ℕ) (c : Connection) : Type 0 where
    pub inside : p < v.places
    pub there : v.entry p ≡ ours c
    pub our-side : c.side ≡ P.side

  -- every other entry of the pair has expired
  abbrev pub Expired : View connections → ℕ → ℕ → Type 0
  Expired v p now = (r : ℕ) → r < v.places → (r ≡ p → ⊥) → pairs (v.entry r) ≡ true → (v.entry r).connection.deadline ≤ now

  -- by the header clock
  abbrev pub OthersExpired : View connections → ℕ → Type 0
  OthersExpired v p = Expired v p v.clock

  -- a call with a segment of the pair's end i
  pub record AskOf (i : ℕ) (a : Ask) : Type 0 where
    pub end : i < 2
    pub side : a.side ≡ side_of P i
    pub key : a.key ≡ key_of P i

  -- the same, end by end
  data Asks (i : ℕ) (a : Ask) : Type 0 where
    as-opener : i ≡ 0 → a.side ≡ P.side → a.key ≡ P.key → Asks i a
    as-answerer : i ≡ 1 → a.side ≡ 1 - P.side → a.key ≡ reversed P.key → Asks i a

  asks-as : (i : ℕ) (a : Ask) → AskOf i a → Asks i a
  asks-as zero a asked = as-opener refl (asked.side ∙ when-= {a = 0} _ _ refl) (asked.key ∙ when-= {a = 0} _ _ refl)
  asks-as (suc zero) a asked =
      let differ : ◌≡◌ {A = ℕ} 1 0 → ⊥ = λ e. omega (arith, e) in
      as-answerer refl (asked.side ∙ when-=-not _ _ differ) (asked.key ∙ when-=-not _ _ differ)
  asks-as (suc (suc i)) a asked = absurd (omega arith)

  -- What a written entry leaves

  module _ (v : View connections) (p now : ℕ) where
    written-here :
        (e : Entry connections) (c : Connection) → p < v.places → e ≡ ours c → c.side ≡ P.side →
        OurEntry (after connections v (Passed p now e)) p c
    written-here e c inside is same-side = record { inside = inside; there = pass-writes connections v p now e ∙ is; our-side = same-side }

    written-elsewhere :
        (q : ℕ) (e : Entry connections) (c : Connection) → OurEntry v p c → (q ≡ p → ⊥) →
        OurEntry (after connections v (Passed q now e)) p c
    written-elsewhere q e c o q≠p = record {
      inside = o.inside;
      there = pass-keeps connections v q now e p (λ p≡q. q≠p (sym p≡q)) ∙ o.there;
      our-side = o.our-side;
    }

    -- a written entry that is ours, not of the pair or expired makes no other of the pair live
    others-stay :
        (q : ℕ) (e : Entry connections) → Expired v p now → ((q ≡ p → ⊥) → pairs e ≡ true → e.connection.deadline ≤ now) →
        OthersExpired (after connections v (Passed q now e)) p
    others-stay q e others new r inside r≠p =
        when-cases (λ x. pairs x ≡ true → x.connection.deadline ≤ now) (r =ᵇ q) e (v.entry r)
        (λ same. new (λ q≡p. r≠p (eqb-true r q same ∙ q≡p))) (λ _. others r inside r≠p)

  -- a pass keeps the side, or frees
  passed-side : (c : Connection) (i : ℕ) (g : Segment) (now : ℕ) → ((passed c i g now).deadline ≡ 0) ⊎ ((passed c i g now).side ≡ c.side)
  unfolding passed carried repeated answered reset
  passed-side c i g now =
      let kept : Connection → Type 0 = λ x. (x.deadline ≡ 0) ⊎ (x.side ≡ c.side) in
      when-either kept _ _ _ (when-either kept _ _ _ (inr refl) (inl refl)) (when-either kept _ _ _ (inr refl) (when-either kept _ _ _ (inr refl) (inr refl)))

  -- so it leaves an entry that is not of the pair not of it, or expired
  pass-stays-out :
      (e : Entry connections) (i : ℕ) (g : Segment) (now : ℕ) → (pairs e ≡ true → ⊥) →
      pairs (entry_after connections e i g now) ≡ true →
      (entry_after connections e i g now).connection.deadline ≤ now
  unfolding entry_with
  pass-stays-out e i g now out =
      when-either (λ x. pairs x ≡ true → x.connection.deadline ≤ now) _ _ _
      (λ m. omega arith) (λ m. go m (passed-side e.connection i g now))
    where
      go :
          pairs (record { key = e.key; connection = passed e.connection i g now }) ≡ true →
          ((passed e.connection i g now).deadline ≡ 0) ⊎ ((passed e.connection i g now).side ≡ e.connection.side) →
          (passed e.connection i g now).deadline ≤ now
      go m (inl freed) = omega arith
      go m (inr same) = absurd (out (end-matches connections e P.side P.key (rw same at (matches-end connections _ P.side P.key m))))

  -- an opening by a call that makes an entry of the pair matches ours
  made-matched :
      (c : Connection) (now side : ℕ) (k : Flow) (g : Segment) → c.side ≡ P.side → side ≡ 0 →
      pairs (opening_entry connections now side k g) ≡ true →
      matches connections (ours c) side k ≡ true
  unfolding opening_entry opened
  made-matched c now side k g our-side from-0 m =
      let made : Entry connections = record { key = k; connection = opened side g now } in
      let end = same_end connections made (sym our-side) refl (matches-end connections made P.side P.key m) in
      end-matches connections (ours c) side k (mutual-end connections made (ours c) (omega arith) end)

  module _ (known : P.side ≤ 1) (v : View connections) (sound : SoundView v) where
    abbrev used : Ask → ℕ
    used a = clock_used connections v a

    side_known : (r : ℕ) → r < v.places → (v.entry r).connection.side ≤ 1
    side_known r inside =
        ⊎_elim (λ is. omega (arith, ap (λ (e : Entry connections). e.connection.side) is)) (λ s. (sound-facts v.clock _ s).side)
        (sound r inside)

    -- what an end of the pair matches, the opener matches
    asked-pairs :
        (e : Entry connections) (i : ℕ) (a : Ask) → e.connection.side ≤ 1 → AskOf i a →
        matches connections e a.side a.key ≡ true →
        pairs e ≡ true
    asked-pairs e i a e-known asked m =
        end-matches connections e P.side P.key (go (asks-as i a asked) (matches-end connections e a.side a.key m))
      where
        go : Asks i a → EndOf connections e a.side a.key → EndOf connections e P.side P.key
        go (as-opener _ s k) end = same_end connections e s k end
        go (as-answerer _ s k) end = far-end connections e P.side P.key known e-known (same_end connections e s k end)

    module _ (c : Connection) (i : ℕ) (a : Ask) (our-side : c.side ≡ P.side) (asked : AskOf i a) where
      ours-matches : matches connections (ours c) a.side a.key ≡ true
      ours-matches = end-matches connections _ a.side a.key (go (asks-as i a asked))
        where
          go : Asks i a → EndOf connections (ours c) a.side a.key
          go (as-opener _ s k) = inl (omega arith, k)
          go (as-answerer _ s k) = inr (omega arith, ap reversed k)

      ours-sender : sender_of connections (ours c) a.side ≡ i
      unfolding sender_of
      ours-sender = go (asks-as i a asked)
        where
          go : Asks i a → (when a.side =ᵇ c.side then 0 else 1) ≡ i
          go (as-opener z s k) = when-true _ 0 1 (eq-eqb a.side c.side (omega arith)) ∙ sym z
          go (as-answerer z s k) = when-false _ 0 1 (ne_eqb a.side c.side (λ e. absurd (omega (arith, e)))) ∙ sym z

    -- an arrival finds the opening's place, as its end's
    pub arrival-found :
        (p i : ℕ) (c : Connection) (a : Ask) → OurEntry v p c → OthersExpired v p → AskOf i a → used a < c.deadline →
        (rows.search connections v (used a) a.side a.key ≡ Some p) × (sender_of connections (ours c) a.side ≡ i)
    arrival-found p i c a o others asked Live-now = (
      found-by _ v.places 0 p (omega arith) (omega (arith, o.inside)) found-there (λ r low less. none_before r less),
      ours-sender c i a o.our-side asked,
    )
      where
        found-there : live_match connections (used a) a.side a.key (v.entry p) ≡ true
        found-there = rw o.there (live-match connections (used a) a.side a.key _ Live-now (ours-matches c i a o.our-side asked))

        none_before : (r : ℕ) → r < p → live_match connections (used a) a.side a.key (v.entry r) ≡ false
        none_before r less =
            let inside : r < v.places = omega (arith, o.inside) in
            expired-unfound connections (used a) a.side a.key _ (λ m.
            omega (arith, others r inside (λ (e : r ≡ p). omega (arith, less)) (asked-pairs _ i a (side_known r inside) asked m)))

    -- an opening that found no live match: where its entry stands, and that no other of the pair is live
    pub record Made (a : Ask) : Type 0 where
      pub place : ℕ
      pub entry : Entry connections
      pub is : filter connections v a ≡ Passed place (used a) entry
      pub ours : OurEntry (after connections v (Passed place (used a) entry)) place (opened P.side a.segment (used a))
      pub others : OthersExpired (after connections v (Passed place (used a) entry)) place

    pub opening-made :
        (a : Ask) → AskOf 0 a → rows.search connections v (used a) a.side a.key ≡ None →
        answer_of connections (filter connections v a) ≡ 0 →
        Made a
    unfolding opening_entry opened
    opening-made a asked none passed-0 = go (comes connections v (used a) a.side a.key a.segment) (asks-as 0 a asked)
      where
        none-live :
            a.side ≡ P.side → a.key ≡ P.key → (r : ℕ) → r < v.places → pairs (v.entry r) ≡ true →
            (v.entry r).connection.deadline ≤ used a
        none-live s k r inside m =
            let end = same_end connections (v.entry r) (sym s) (sym k) (matches-end connections (v.entry r) P.side P.key m) in
            unfound-expired connections (used a) a.side a.key (v.entry r)
            (none-if-nothing _ v.places 0 none r (omega arith) (omega arith)) (end-matches connections (v.entry r) a.side a.key end)

        go : Comes connections v (used a) a.side a.key a.segment (filter connections v a) → Asks 0 a → Made a
        go (blocks n is low high) _ = absurd (omega (arith, low, ap (answer_of connections) is, passed-0))
        go (passes p is found _ _ _) _ = cc
        go (makes p is _ room _) (as-answerer z _ _) = absurd (omega arith)
        go (makes p is _ room _) (as-opener _ s k) = record {
          place = p;
          entry = _;
          is = is;
          ours = written-here v p (used a) _ _ room (λ n. record { key = k n; connection = opened (s n) a.segment (used a) }) refl;
          others = others-stay v p (used a) p _ (λ r inside _ m. none-live s k r inside m) (λ out. absurd (out refl));
        }

    -- a pass elsewhere, while ours is live, leaves ours as it is and makes no other of the pair live
    pub pass-elsewhere :
        (number : ℕ → ℕ) (p : ℕ) (c : Connection) (a : Ask) → OurEntry v p c → OthersExpired v p → used a < c.deadline →
        answer_of connections (filter connections v a) ≡ 0 → (place_by number (filter connections v a) ≡ number p → ⊥) →
        OurEntry (after connections v (filter connections v a)) p c × OthersExpired (after connections v (filter connections v a)) p
    pass-elsewhere number p c a o others Live-now passed-0 elsewhere = go (comes connections v (used a) a.side a.key a.segment)
      where
        later : Expired v p (used a)
        later r inside r≠p m = omega (arith, others r inside r≠p m)

        -- ours would be found
        ours-found : rows.search connections v (used a) a.side a.key ≡ None → matches connections (ours c) a.side a.key ≡ true → ⊥
        ours-found none m =
            let unfound = none-if-nothing _ v.places 0 none p (omega arith) (omega (arith, o.inside)) in
            false-true (sym (rw o.there at unfound) ∙ live-match connections (used a) a.side a.key _ Live-now m)

        go :
            Comes connections v (used a) a.side a.key a.segment (filter connections v a) →
            OurEntry (after connections v (filter connections v a)) p c × OthersExpired (after connections v (filter connections v a)) p
        go (blocks n is low high) = absurd (omega (arith, low, ap (answer_of connections) is, passed-0))
        go (passes q is found inside live-there _) =
            let q≠p : q ≡ p → ⊥ = λ e. elsewhere (ap (place_by number) is ∙ ap number e) in
            let out : pairs (v.entry q) ≡ true → ⊥ = λ m. absurd (omega (arith, others q inside q≠p m, live-there)) in
            rw is (
              written-elsewhere v p (used a) q _ c o q≠p,
              others-stay v p (used a) q _ later (λ _. pass-stays-out (v.entry q) _ a.segment (used a) out),
            )
        go (makes q is none _ opening) =
            let q≠p : q ≡ p → ⊥ = λ e. elsewhere (ap (place_by number) is ∙ ap number e) in
            let from-0 = eqb-true a.side 0 (&&-true (a.side =ᵇ 0) _ opening).0 in
            rw is (
              written-elsewhere v p (used a) q _ c o q≠p,
              others-stay v p (used a) q _ later
                  (λ _ m. absurd (ours-found none (made-matched c (used a) a.side a.key a.segment o.our-side from-0 m))),
            )

    -- a pass on ours: the entry that it leaves, and the others as before
    pub pass-on-ours :
        (p : ℕ) (c c' : Connection) (now : ℕ) → OurEntry v p c → OthersExpired v p → v.clock ≤ now → c'.side ≡ P.side →
        OurEntry (after connections v (Passed p now (ours c'))) p c' × OthersExpired (after connections v (Passed p now (ours c'))) p
    pass-on-ours p c c' now o others later same-side = (
      written-here v p now _ c' o.inside refl same-side,
      others-stay v p now p _ (λ r inside r≠p m. omega (arith, others r inside r≠p m)) (λ out. absurd (out refl)),
    )

    -- a reset that passes on ours from stage 2 on
    reset-entry : (c : Connection) (now : ℕ) → entry_with connections (ours c) (reset c now) ≡ ours (reset c now)
    unfolding entry_with reset when◌then◌else◌
    reset-entry c now = refl

    pub reset-on-ours :
        (p : ℕ) (c : Connection) (a : Ask) → OurEntry v p c → answer_of connections (filter connections v a) ≡ 0 →
        ((q : ℕ) → rows.search connections v (used a) a.side a.key ≡ Some q → (now : ℕ) (e : Entry connections) →
        filter connections v a ≡ Passed q now e → q ≡ p) →
        rst a.segment.flags ≡ 1 → 2 ≤ c.stage →
        filter connections v a ≡ Passed p (used a) (ours (reset c (used a)))
    reset-on-ours p c a o passed-0 at-ours is_reset later = go (comes connections v (used a) a.side a.key a.segment)
      where
        go :
            Comes connections v (used a) a.side a.key a.segment (filter connections v a) →
            filter connections v a ≡ Passed p (used a) (ours (reset c (used a)))
        go (blocks n is low high) = absurd (omega (arith, low, ap (answer_of connections) is, passed-0))
        go (makes q is none _ opening) =
            absurd (omega (arith, eqb-true a.segment.flags SYN (&&-true (a.side =ᵇ 0) _ opening).1, is_reset))
        go (passes q is found _ _ _) =
            let here = at-ours q found _ _ is in
            let left : entry_after connections (v.entry q) (sender_of connections (v.entry q) a.side) a.segment (used a) ≡ ours (reset c (used a)) =
            ap (λ (e : Entry connections). entry_after connections e (sender_of connections e a.side) a.segment (used a)) (ap v.entry here ∙ o.there)
            ∙ ap (entry_with connections (ours c)) (passed-reset c _ a.segment (used a) is_reset later)
            ∙ reset-entry c (used a) in
            is ∙ λ i. Passed (here i) (used a) (left i)

  -- a pass of a call that finds a place is at that place
  pub found-place :
      (v : View connections) (number : ℕ → ℕ) (p : ℕ) (a : Ask) →
      rows.search connections v (clock_used connections v a) a.side a.key ≡ Some p → answer_of connections (filter connections v a) ≡ 0 →
      place_by number (filter connections v a) ≡ number p
  found-place v number p a found passed-0 = go (comes connections v (clock_used connections v a) a.side a.key a.segment)
    where
      go :
          Comes connections v (clock_used connections v a) a.side a.key a.segment (filter connections v a) →
          place_by number (filter connections v a) ≡ number p
      go (blocks n is low high) = absurd (omega (arith, low, ap (answer_of connections) is, passed-0))
      go (makes q is none _ _) = cc
      go (passes q is found-q _ _ _) =
          let both : Some q ≡ Some p = sym found-q ∙ found in
          let same : q ≡ p = cc in
          ap (place_by number) is ∙ ap number same

  -- a pass stores the clock used
  pub pass-clock :
      (v : View connections) (a : Ask) → answer_of connections (filter connections v a) ≡ 0 →
      (after connections v (filter connections v a)).clock ≡ clock_used connections v a
  pass-clock v a passed-0 = go (comes connections v (clock_used connections v a) a.side a.key a.segment)
    where
      go :
          Comes connections v (clock_used connections v a) a.side a.key a.segment (filter connections v a) →
          (after connections v (filter connections v a)).clock ≡ clock_used connections v a
      go (blocks n is low high) = absurd (omega (arith, low, ap (answer_of connections) is, passed-0))
      go (passes p is _ _ _ _) = rw is
      go (makes p is _ _ _) = rw is
